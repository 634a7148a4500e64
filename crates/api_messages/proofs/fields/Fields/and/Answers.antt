use Rattle.std.proofs.Common.{◌≡◌, ◌||◌, arith, ap, sym, ◌∙◌}
use Rattle.std.specs.Prelude.{codes, ◌&&◌}
use Rattle.api_messages.specs.Fields.{Pair, Known, is_named, is_close}
use Rattle.api_messages.proofs.FieldLemmas.{one_more, list_any-values_of-push}
use Rattle.api_messages.proofs.fields.Fields.and.Goals as goal
use Rattle.api_messages.proofs.fields.Fields.and.Goals.{then-self, else-self}

pub returns : goal.returns
returns c = λ pairs before.
    let p : Pair = (c.args.name.now, c.args.value.now) in
    let host = one_more (codes "host") pairs p _ _ _ (ap (λ (k : Known). k.host) before) c.is_named.ensures c.and.ensures in
    let length = one_more (codes "content-length") pairs p _ _ _ (ap (λ (k : Known). k.length) before) c.is_named-2.ensures c.and-2.ensures in
    let coding = one_more (codes "transfer-encoding") pairs p _ _ _ (ap (λ (k : Known). k.coding) before) c.is_named-3.ensures c.and-3.ensures in
    let target = one_more (codes "x-amz-target") pairs p _ _ _ (ap (λ (k : Known). k.target) before) c.is_named-4.ensures c.and-4.ensures in
    let caller = one_more (codes "x-caller-account") pairs p _ _ _ (ap (λ (k : Known). k.caller) before) c.is_named-5.ensures c.and-5.ensures in
    let close : c.if-self.result ≡ (c.args.self.close || (is_named (codes "connection") p.0 && is_close p.1)) =
    elim c.if-self.branch [ then-self w ↦ grind arith | else-self w ↦ grind arith ] in
    let closes = close
    ∙ ap (λ (k : Known). k.close || (is_named (codes "connection") p.0 && is_close p.1)) before
    ∙ sym (list_any-values_of-push is_close (codes "connection") pairs p) in
    λ i. record { host = host i; length = length i; coding = coding i; target = target i; caller = caller i; close = closes i }
