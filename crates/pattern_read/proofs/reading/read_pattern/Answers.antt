use Rattle.std.proofs.Common.{◌≤◌, ◌<◌, true, [], length, refl, sym, subst, arith}
use Rattle.json_text.specs.View.{tree_of}
use Rattle.pattern_read.specs.Value.{IsPatternOf}
use Rattle.pattern_read.specs.Refusal.{IsFault, too_long, not_json, too_deep, key_twice}
use Rattle.pattern_read.proofs.ReadLemmas.{read_only, read_refused, read_sound}
use Rattle.pattern_read.proofs.reading.read_pattern.Goals as goal

pub returns-then-bytes-gt-MAX_LEN-clause-refused : goal.returns-then-bytes-gt-MAX_LEN-clause-refused
returns-then-bytes-gt-MAX_LEN-clause-refused c =
    let long : 4096 < length c.args.bytes.now = omega arith in
    subst (IsFault c.args.bytes.now) (sym c.whole.ensures) ([], too_long long, refl)

pub returns-in-Ok-clause-only : goal.returns-in-Ok-clause-only
returns-in-Ok-clause-only c = λ p is.
    let json = c.in-Ok.ensures.only is.node is.spelled in
    read_only (tree_of c.in-Ok.json) c.read_json.result p (subst (λ x. IsPatternOf true x p) (sym json.1) is.stands_for) is.few c.read_json.ensures

pub returns-in-Ok-clause-refused : goal.returns-in-Ok-clause-refused
returns-in-Ok-clause-refused c =
    let short : length c.args.bytes.now ≤ 4096 = omega arith in
    let found = c.in-Ok.ensures.found in
    read_refused c.args.bytes.now found.0 (tree_of c.in-Ok.json) c.read_json.result short found.1 found.2 found.3 c.read_json.ensures

pub returns-in-Ok-clause-pattern : goal.returns-in-Ok-clause-pattern
returns-in-Ok-clause-pattern c = (read_sound (tree_of c.in-Ok.json) c.read_json.result c.in-Ok.ensures.value c.read_json.ensures).0

pub returns-in-Ok-clause-no_id : goal.returns-in-Ok-clause-no_id
returns-in-Ok-clause-no_id c = (read_sound (tree_of c.in-Ok.json) c.read_json.result c.in-Ok.ensures.value c.read_json.ensures).1

pub returns-in-Err-NotJson-clause-refused : goal.returns-in-Err-NotJson-clause-refused
returns-in-Err-NotJson-clause-refused c =
    let short : length c.args.bytes.now ≤ 4096 = omega arith in
    let fails = c.in-Err-NotJson.ensures.not_json c.in-Err-NotJson.field-0-0 (cc) in
    subst (IsFault c.args.bytes.now) (sym c.whole-in-Err-NotJson.ensures) ([], not_json c.in-Err-NotJson.field-0-0 short fails.0 fails.1, refl)

pub returns-in-Err-TooDeep-clause-refused : goal.returns-in-Err-TooDeep-clause-refused
returns-in-Err-TooDeep-clause-refused c =
    let short : length c.args.bytes.now ≤ 4096 = omega arith in
    let fails = c.in-Err-TooDeep.ensures.too_deep c.in-Err-TooDeep.field-0-0 (cc) in
    subst (IsFault c.args.bytes.now) (sym c.whole-in-Err-TooDeep.ensures) ([], too_deep c.in-Err-TooDeep.field-0-0 short fails.0 fails.1, refl)

pub returns-in-Err-KeyTwice-clause-refused : goal.returns-in-Err-KeyTwice-clause-refused
returns-in-Err-KeyTwice-clause-refused c =
    let short : length c.args.bytes.now ≤ 4096 = omega arith in
    let twice = c.in-Err-KeyTwice.ensures.key_twice c.in-Err-KeyTwice.field-0-0 (cc) in
    subst (IsFault c.args.bytes.now) (sym c.whole-in-Err-KeyTwice.ensures) ([], key_twice twice.0 c.in-Err-KeyTwice.field-0-0 short twice.1 twice.2, refl)
