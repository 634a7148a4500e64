use Rattle.std.proofs.Common.{refl}
use Rattle.std.proofs.lemmas.List.{map-append}
use Rattle.json_text.proofs.ViewLemmas.{tree_of_text}
use Rattle.api_replies.proofs.cause.push_failure.Goals as goal

pub returns-clause-pushed : goal.returns-clause-pushed
returns-clause-pushed c =
    rw (
      c.in_ok-append.ensures.items,
      map-append,
      c.in_ok-push_member.ensures.pushed,
      c.in_ok-push_text.ensures.pushed,
      c.in_ok-failure.ensures.items,
      c.in_ok-message.ensures,
      c.type_name.ensures,
      tree_of_text,
    )
    refl
