use Rattle.event_shape.proofs.EventLemmas.{text_pushed}
use Rattle.event_shape.proofs.writing.text_items.Goals as goal

pub loop-text-preserved : goal.loop-text-preserved
loop-text-preserved c =
    text_pushed c.loop-text.items.items c.push.new.self.items c.args.texts.now c.loop-text.text-index c.in_ok-copy.field-0 c.text-item.result
    c.loop-text-test.true c.loop-text.invariant c.in_ok-push.ensures.items c.in_ok-copy.ensures c.text-item.is
