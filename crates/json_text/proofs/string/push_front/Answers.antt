use Rattle.std.proofs.Common.{arith, ap, length}
use Rattle.json_text.proofs.PlainLemmas.{front_put}
use Rattle.json_text.proofs.string.push_front.Goals as goal

pub returns : goal.returns
returns c = front_put c.args.text.now.items c.args.bytes.now c.extend_from_slice-2.new.self.items c.truncate.new.self.items c.args.len (length c.as_slice.result.now)
    (omega arith) (omega arith) c.in_ok-extend_from_slice.ensures.items (ap length c.as_slice.ensures.value) c.truncate.ensures.items
