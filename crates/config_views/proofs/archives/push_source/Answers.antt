use Rattle.json_text.proofs.ViewLemmas.{tree_of_text}
use Rattle.config_views.proofs.PushLemmas.{two_more}
use Rattle.config_views.proofs.archives.push_source.Goals as goal

pub returns : goal.returns
returns c =
    rw (
      c.in_ok-push_member.ensures.pushed,
      c.in_ok-push_text.ensures.pushed,
      c.in_ok-arn.ensures,
      c.name.ensures,
      c.bus.ensures,
      tree_of_text,
    )
    (two_more _ _ _)
