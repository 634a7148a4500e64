use Rattle.std.proofs.Common.{◌≡◌, List, ℕ, ap, ◌∙◌}
use Rattle.api_replies.specs.View.{reply_of}
use Rattle.config_views.specs.Archives.{archive_reply}
use Rattle.resource_calls.proofs.DecidedLemmas.{controlled_so}
use Rattle.resource_calls.proofs.archives.create_archive.Goals as goal

pub returns-clause-answer : goal.returns-clause-answer
returns-clause-answer c =
    let reply : reply_of c.in_ok-reply.reply ≡ archive_reply c.args.name.now c.args.moment =
    c.in_ok-reply.ensures ∙ ap (λ (name : List ℕ). archive_reply name c.args.moment) c.as_str.ensures in
    controlled_so c.configure.result c.args.tables.now.set c.in_ok-control.ensures reply c.configure.ensures.answer
