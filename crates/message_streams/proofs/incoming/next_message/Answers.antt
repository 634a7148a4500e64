use Rattle.std.proofs.Common.{◌≡◌, ◌≢◌, ℕ, ◌<◌, ◌≤◌, ◌-◌, List, [], ◌∷◌, ◌++◌, true, None, ap, sym, subst, ◌∙◌, arith, rules, length, take, length-append, append-nil}
use Rattle.std.proofs.lemmas.List.{length-take}
use Rattle.api_messages.specs.declared.message.Message.{Message}
use Rattle.api_messages.specs.Messages.{HoldsMessage, IsAwaited}
use Rattle.api_messages.specs.Reading.{Incoming}
use Rattle.message_streams.specs.declared.incoming.Lack.TheVariants as lacks
use Rattle.message_streams.proofs.IncomingLemmas.{IsReading, read_none, read_piece_more, lacks_now, starved, whole_starved}
use Rattle.message_streams.proofs.incoming.next_message.Goals as goal

pub loop-message-init : goal.loop-message-init
loop-message-init g c = record {
  reading = read_none _ _;
  unrefused = search rules;
  faultless = search rules;
  room = search rules;
  most = search rules;
}

pub returns-in-Ok-Some-clause-next : goal.returns-in-Ok-Some-clause-next
returns-in-Ok-Some-clause-next g c =
    let (pieces, is, read) = c.loop-message.invariant.reading in
    let held : HoldsMessage c.loop-message.wire.rest c.in-Ok-Some.message c.next.new.self.rest × (c.next.new.self.refused ≡ None) = search rules in
    (pieces, c.loop-message.wire.rest, is, read, held.0)

pub returns-in-Err-Refused-clause-next : goal.returns-in-Err-Refused-clause-next
returns-in-Err-Refused-clause-next g c =
    lacks_now _ _ _ c.args.wire.now.rest c.loop-message.wire.rest (lacks.Refused c.in-Err-Refused.why) c.loop-message.invariant.reading (sym (append-nil _)) (search rules)

pub returns-in-Err-NoMemory-clause-next : goal.returns-in-Err-NoMemory-clause-next
returns-in-Err-NoMemory-clause-next g c =
    let whole : ((m : Message) × (rest : List ℕ) × HoldsMessage c.loop-message.wire.rest m rest) × (c.next.new.self ≡ c.loop-message.wire) = search rules in
    lacks_now _ _ _ c.args.wire.now.rest c.loop-message.wire.rest (lacks.NoMemory true) c.loop-message.invariant.reading (sym (append-nil _)) (whole_starved c.loop-message.wire.rest whole.0)

pub returns-in-Err-clause-next : goal.returns-in-Err-clause-next
returns-in-Err-clause-next g c =
    let awaited : IsAwaited c.loop-message.wire.rest × (c.next.new.self ≡ c.loop-message.wire) = search rules in
    let same : c.reserve.new.self.rest ≡ c.loop-message.wire.rest = c.reserve.ensures.rest ∙ ap (λ (w : Incoming). w.rest) awaited.1 in
    let still : IsAwaited c.reserve.new.self.rest = subst IsAwaited (sym same) awaited.0 in
    lacks_now _ _ _ c.args.wire.now.rest c.reserve.new.self.rest (lacks.NoMemory c.has_head-head.result)
    (subst (λ (bytes : List ℕ). IsReading (g.S.Source.gave c.args.input.now) (g.S.Source.gave c.loop-message.input) c.args.wire.now.rest bytes) (sym same)
    c.loop-message.invariant.reading) (sym (append-nil _))
    (starved c.reserve.new.self.rest c.has_head-head.result still c.has_head-head.ensures.whole (λ no_head. c.has_head-head.ensures.none no_head still))

pub returns-in-Ok-eq0-clause-next : goal.returns-in-Ok-eq0-clause-next
returns-in-Ok-eq0-clause-next g c =
    let awaited : IsAwaited c.loop-message.wire.rest × (c.next.new.self ≡ c.loop-message.wire) = search rules in
    let same : c.reserve.new.self.rest ≡ c.loop-message.wire.rest = c.reserve.ensures.rest ∙ ap (λ (w : Incoming). w.rest) awaited.1 in
    let gave : g.S.Source.gave c.read_piece.new.input ≡ g.S.Source.gave c.loop-message.input ++ take 0 c.read_piece.new.piece ∷ [] =
    subst (λ n. g.S.Source.gave c.read_piece.new.input ≡ g.S.Source.gave c.loop-message.input ++ take n c.read_piece.new.piece ∷ []) c.in-Ok-eq0.field-0-test
    c.in-Ok-eq0.ensures.piece in
    lacks_now _ _ _ c.args.wire.now.rest c.reserve.new.self.rest c.lack_at_end.result
    (subst (λ (bytes : List ℕ). IsReading (g.S.Source.gave c.args.input.now) (g.S.Source.gave c.loop-message.input) c.args.wire.now.rest bytes) (sym same)
    c.loop-message.invariant.reading)
    (gave ∙ ap (λ (p : List (List ℕ)). g.S.Source.gave c.loop-message.input ++ p) (sym c.lack_at_end.ensures.end)) c.lack_at_end.ensures.lack

pub returns-in-Err-read_piece-clause-next : goal.returns-in-Err-read_piece-clause-next
returns-in-Err-read_piece-clause-next g c =
    let awaited : IsAwaited c.loop-message.wire.rest × (c.next.new.self ≡ c.loop-message.wire) = search rules in
    lacks_now _ _ _ c.args.wire.now.rest c.loop-message.wire.rest lacks.ReadFault c.loop-message.invariant.reading
    (c.in-Err-read_piece.ensures.piece ∙ sym (append-nil _)) awaited.0

pub loop-message-preserved : goal.loop-message-preserved
loop-message-preserved g c =
    let awaited : IsAwaited c.loop-message.wire.rest × (c.next.new.self ≡ c.loop-message.wire) = search rules in
    let same : c.reserve.new.self.rest ≡ c.loop-message.wire.rest = c.reserve.ensures.rest ∙ ap (λ (w : Incoming). w.rest) awaited.1 in
    let piece = take c.in-Ok.count c.read_piece.new.piece in
    let longer : c.feed.new.self.rest ≡ c.loop-message.wire.rest ++ piece = c.in-Ok-feed.ensures.ok ∙ ap (λ (bytes : List ℕ). bytes ++ piece) same in
    let within : c.in-Ok.count ≤ length c.read_piece.new.piece = c.in-Ok.ensures.within.0 in
    let read : ¬ (c.in-Ok.count ≡ 0) = c.in-Ok.count-test.1 in
    let some : piece ≢ [] = λ none. absurd (omega (arith, ap length none, length-take c.in-Ok.count c.read_piece.new.piece, within, read)) in
    let all : length c.read_piece.new.piece ≤ 16384 = search rules in
    let most : length piece ≤ 16384 = omega (arith, length-take c.in-Ok.count c.read_piece.new.piece, all, within) in
    record {
      reading = subst (λ (bytes : List ℕ). IsReading (g.S.Source.gave c.args.input.now) (g.S.Source.gave c.read_piece.new.input) c.args.wire.now.rest bytes) (sym longer)
          (read_piece_more _ _ _ c.args.wire.now.rest c.loop-message.wire.rest piece c.loop-message.invariant.reading c.in-Ok.ensures.piece awaited.0 (some, most));
      unrefused = c.feed.ensures.refused ∙ c.reserve.ensures.refused ∙ ap (λ (w : Incoming). w.refused) awaited.1 ∙ c.loop-message.invariant.unrefused;
      faultless = search rules;
      room = search rules;
      most = search rules;
    }

pub loop-message-smaller : goal.loop-message-smaller
loop-message-smaller g c =
    let awaited : IsAwaited c.loop-message.wire.rest × (c.next.new.self ≡ c.loop-message.wire) = search rules in
    let short = c.awaited_is_short.ensures c.loop-message.wire.rest awaited.0 in
    let same : c.reserve.new.self.rest ≡ c.loop-message.wire.rest = c.reserve.ensures.rest ∙ ap (λ (w : Incoming). w.rest) awaited.1 in
    let longer_now : c.feed.new.self.rest ≡ c.reserve.new.self.rest ++ take c.in-Ok.count c.read_piece.new.piece = c.in-Ok-feed.ensures.ok in
    let within : c.in-Ok.count ≤ length c.read_piece.new.piece = c.in-Ok.ensures.within.0 in
    let read : ¬ (c.in-Ok.count ≡ 0) = c.in-Ok.count-test.1 in
    let some : 0 < length (take c.in-Ok.count c.read_piece.new.piece) = omega (arith, length-take c.in-Ok.count c.read_piece.new.piece, within, read) in
    let fact : 1064960 - length c.feed.new.self.rest < 1064960 - length c.loop-message.wire.rest =
    omega (arith, ap length longer_now, ap length same, length-append c.reserve.new.self.rest (take c.in-Ok.count c.read_piece.new.piece), short, some) in
    fact
