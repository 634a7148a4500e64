use Rattle.std.proofs.Common.{sym, subst}
use Rattle.json_text.specs.View.{tree_of}
use Rattle.bus_policy.specs.Stored.{IsStored}
use Rattle.bus_policy.specs.Change.{allow_for}
use Rattle.bus_policy.specs.Grantee.{account_given}
use Rattle.bus_policy.proofs.ItemLemmas.{made_first}
use Rattle.bus_policy.proofs.ChangeLemmas.{allowed_first}
use Rattle.bus_policy.proofs.policy.Policy.new.Goals as goal

pub of-requires : goal.of-requires
of-requires c =
    let account = account_given c.args.to in
    let made = made_first c.in_ok-statements.statements.items c.push.new.self.items c.in_ok-statement.statement
    (tree_of c.in_ok-version.version) (tree_of c.in_ok-value.value)
    (allow_for c.args.sid.now account c.args.bus.now) c.in_ok-statements.ensures.items c.in_ok-push.ensures.items
    c.in_ok-statement.ensures c.in_ok-version.ensures c.in_ok-value.ensures in
    subst IsStored (sym made) (allowed_first c.args.sid.now account c.args.bus.now c.utf8.sid c.requires c.utf8.bus)
