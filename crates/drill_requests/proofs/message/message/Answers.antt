use Rattle.std.proofs.Common.{rules}
use Rattle.drill_requests.proofs.MessageLemmas.{message_is}
use Rattle.drill_requests.proofs.message.message.Goals as goal

pub returns : goal.returns
returns c =
    message_is c.args.operation.now c.args.body.now c.in_ok-bytes.bytes.items c.extend_from_slice.new.self.items c.extend_from_slice-2.new.self.items
    c.extend_from_slice-3.new.self.items c.extend_from_slice-4.new.self.items c.extend_from_slice-5.new.self.items (search rules) (search rules)
    c.in_ok-extend_from_slice-2.ensures.items (search rules) c.in_ok-extend_from_slice-4.ensures.items (search rules)
