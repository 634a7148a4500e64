-- The view of a reply in contracts.
use Rattle.json_text.specs.View.{tree_of}
use Rattle.api_replies.specs.declared.reply.Reply.{Reply}
use Rattle.api_replies.specs.Reply as replies

-- What contracts see of the code's `Reply`, with its body as a tree.
-- Shown by: tables api_replies.rows: each_refusal_has_its_status_and_its_text.
abbrev pub reply_of : Reply → replies.Reply
reply_of r = record { status = r.status; body = tree_of r.body }
