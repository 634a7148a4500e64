use Rattle.std.proofs.Common.{◌≤◌, Err, length, take, sym, refl, ap, ◌∙◌, subst, arith, rules}
use Rattle.std.proofs.lemmas.Bool.{false≢true}
use Rattle.std.proofs.lemmas.List.{take_all, length-take}
use Rattle.httparse.specs.Grammar.{HasNoRequest, NeverHasRequest, MayBecomeRequest}
use Rattle.httparse.specs.Spans.{IsRequestWithin, IsRequestOf}
use Rattle.api_messages.specs.Fields.{method_of, known_of}
use Rattle.api_messages.specs.Lines.{Begins65th}
use Rattle.api_messages.specs.Messages.{never, many, long, head_awaited}
use Rattle.api_messages.proofs.FrontLemmas.{reads_whole, start_is, few_fields, never_by}
use Rattle.api_messages.proofs.front.read_head.Goals as goal

pub returns-in-Ok-Complete-clause-front : goal.returns-in-Ok-Complete-clause-front
returns-in-Ok-Complete-clause-front c =
    let bytes = c.args.bytes.now in
    let n = c.min.result in
    let spans = c.in-Ok-Complete.spans in
    let found : IsRequestOf (take n bytes) c.parse_request.new.headers spans = search rules in
    let within : IsRequestWithin (take n bytes) c.parse_request.new.headers spans = search rules in
    let h = found.0 in
    let at = found.1 in
    let len : spans.len ≤ length (take n bytes) = within.section.len_fits in
    let size = length-take n bytes in (
      h,
      record {
        reads = reads_whole bytes n h spans.len at.reads len;
        len = at.len;
        within = omega (arith, len, size);
        small = record {
          short = omega (arith, at.len, len, size, c.min.ensures);
          few =
              let room = c.parse_request.auto.headers in
              let count = few_fields (take n bytes) c.parse_request.new.headers spans.headers h.fields at.fields in
              omega (arith, count, within.section.count_fits, room);
        };
        method = c.of-in-Ok-Complete.ensures ∙ ap method_of (c.of.ensures ∙ at.method);
        minor = at.version;
        fields = c.of-in-Ok-Complete-2.ensures ∙ ap known_of at.fields;
      },
    )

pub returns-in-Ok-Partial-clause-front : goal.returns-in-Ok-Partial-clause-front
returns-in-Ok-Partial-clause-front c =
    many refl (subst Begins65th (start_is c.args.bytes.now c.min.result c.min.ensures) (c.begins_65th.ensures.0 c.if-begins_65th.true))

pub returns-in-Ok-Partial-2-clause-front : goal.returns-in-Ok-Partial-2-clause-front
returns-in-Ok-Partial-2-clause-front c =
    let bytes = c.args.bytes.now in
    let n = c.min.result in
    let none : HasNoRequest (take n bytes) = search rules in
    let may : MayBecomeRequest (take n bytes) = search rules in
    let all = take_all n bytes (omega (arith, c.min.ensures, c.if-bytes-lt-HEAD_LIMIT.true)) in
    head_awaited c.if-bytes-lt-HEAD_LIMIT.true (subst HasNoRequest all none) (subst MayBecomeRequest all may)
    (λ begins. false≢true (sym c.if-begins_65th.false ∙ c.begins_65th.ensures.1 (subst Begins65th (sym all) begins)))

pub returns-in-Ok-Partial-3-clause-front : goal.returns-in-Ok-Partial-3-clause-front
returns-in-Ok-Partial-3-clause-front c =
    let bytes = c.args.bytes.now in
    let n = c.min.result in
    let same = start_is bytes n c.min.ensures in
    let none : HasNoRequest (take n bytes) = search rules in
    let may : MayBecomeRequest (take n bytes) = search rules in
    long refl (omega (arith, c.if-bytes-lt-HEAD_LIMIT.false)) (subst HasNoRequest same none) (subst MayBecomeRequest same may)

pub returns-in-Err-clause-front : goal.returns-in-Err-clause-front
returns-in-Err-clause-front c =
    many refl (subst Begins65th (start_is c.args.bytes.now c.min.result c.min.ensures) (c.if-begins_65th-2.ensures.0 refl))

pub returns-in-Err-2-clause-front : goal.returns-in-Err-2-clause-front
returns-in-Err-2-clause-front c =
    let bytes = c.args.bytes.now in
    let n = c.min.result in
    let same = start_is bytes n c.min.ensures in
    let e = c.in-Err-2.ensures in
    let shown : ¬ (Begins65th (take n bytes)) = λ begins. false≢true (c.if-begins_65th-2.ensures.1 begins) in
    let none = never_by (take n bytes) c.in-Err-2.field-0 e.invalid (λ many. e.too_many (ap Err many)) shown in
    never refl (subst NeverHasRequest same none) (λ begins. shown (subst Begins65th (sym same) begins))

pub returns-in-Ok-Partial-2-clause-awaited : goal.returns-in-Ok-Partial-2-clause-awaited
returns-in-Ok-Partial-2-clause-awaited c =
    let bytes = c.args.bytes.now in
    let n = c.min.result in
    let none : HasNoRequest (take n bytes) = search rules in
    subst HasNoRequest (take_all n bytes (omega (arith, c.min.ensures, c.if-bytes-lt-HEAD_LIMIT.true))) none
