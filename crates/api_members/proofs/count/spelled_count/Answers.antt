use Rattle.std.proofs.Common.{◌≡◌, true}
use Rattle.api_members.specs.Count.{is_int}
use Rattle.api_members.proofs.CountLemmas.{too_large}
use Rattle.api_members.proofs.count.spelled_count.Goals as goal

pub returns-in-Err-clause-count : goal.returns-in-Err-clause-count
returns-in-Err-clause-count c =
    let is : is_int c.args.spelling.now ≡ true = rw (← c.as_bytes.ensures.value, ← c.is_int.ensures) c.if-not-is_int.false in
    too_large c.args.least c.args.most c.args.spelling.now c.in-Err._too_large c.parse.result is c.ranges.most.fits c.parse.ensures.value.0
    c.in-Err.is
