use Rattle.std.proofs.Common.{◌≡◌, Some, sym, ap, subst, ◌∙◌}
use Rattle.std.specs.Option.{option_copied}
use Rattle.json_text.specs.Tree.{members_of}
use Rattle.json_text.specs.View.{pairs_of}
use Rattle.rule_table.specs.WellFormed.{IsNoneOrPattern}
use Rattle.api_replies.specs.declared.member.Member.TheVariants as member
use Rattle.api_members.specs.Given.{given, text_given}
use Rattle.api_wire.proofs.BoundLemmas.{pattern_if_given}
use Rattle.api_wire.proofs.call.pattern.pattern_given.Goals as goal

pub pattern_of-requires : goal.pattern_of-requires
pattern_of-requires c =
    let ms = members_of (pairs_of c.args.members.now) in
    let same : text_given member.EventPattern ms ≡ Some c.in-Some.text.now = sym c.text_given.ensures ∙ ap option_copied c.in-Some.is in
    subst IsNoneOrPattern same (pattern_if_given (given member.EventPattern ms) c.requires)
