use Rattle.std.proofs.Common.{◌≡◌, sym, subst}
use Rattle.std.specs.Prelude.{IfOk}
use Rattle.json_text.specs.Tree.{Tree}
use Rattle.json_text.specs.View.{tree_of}
use Rattle.bus_policy.specs.Stored.{IsStored}
use Rattle.bus_policy.specs.Change.{allow_for}
use Rattle.bus_policy.specs.Grantee.{account_given}
use Rattle.bus_policy.proofs.ItemLemmas.{made_more}
use Rattle.bus_policy.proofs.ChangeLemmas.{allowed_more}
use Rattle.bus_policy.proofs.policy.Policy.with_statement.Goals as goal

pub of-requires : goal.of-requires
of-requires c =
    let account = account_given c.args.to in
    let made = made_more c.in_ok-statements.statements.items c.push.new.self.items c.in_ok-statement.statement
    (tree_of c.in_ok-version.version) (tree_of c.in_ok-value.value)
    (tree_of c.value-old.result.now) c.args.self.now (allow_for c.args.sid.now account c.args.bus.now)
    c.value-old.ensures.seen c.in_ok-version.ensures c.in_ok-statements.ensures c.in_ok-push.ensures.items c.in_ok-statement.ensures c.in_ok-value.ensures in
    subst IsStored (sym made) (allowed_more c.args.self.now c.args.sid.now account c.args.bus.now
    c.value-old.ensures.stored c.requires.new_sid c.utf8.sid c.requires.account c.utf8.bus)

pub returns : goal.returns
returns c =
    let account = account_given c.args.to in
    let made = made_more c.in_ok-statements.statements.items c.push.new.self.items c.in_ok-statement.statement
    (tree_of c.in_ok-version.version) (tree_of c.in_ok-value.value)
    (tree_of c.value-old.result.now) c.args.self.now (allow_for c.args.sid.now account c.args.bus.now)
    c.value-old.ensures.seen c.in_ok-version.ensures c.in_ok-statements.ensures c.in_ok-push.ensures.items c.in_ok-statement.ensures c.in_ok-value.ensures in
    subst (λ (t : Tree). IfOk c.of.result (λ p. p ≡ t)) made c.of.ensures
