use Rattle.std.proofs.Common.{◌≡◌, sym, length, subst, true, rules, ◌<◌, ◌^◌}
use Rattle.url.specs.Parts.{IsValid}
use Rattle.http_target.specs.Endpoint.{is_local}
use Rattle.http_target.proofs.RequestLemmas.{joined, one_request}
use Rattle.http_target.proofs.endpoint.Endpoint.request.Goals as goal

pub returns-clause-bytes : goal.returns-clause-bytes
returns-clause-bytes c =
    rw (
      c.in_ok-extend-6.ensures.ok,
      c.in_ok-extend-5.ensures.ok,
      c.in_ok-extend-4.ensures.ok,
      c.in_ok-extend-3.ensures.ok,
      c.in_ok-push_host.ensures.ok,
      c.in_ok-extend-2.ensures.ok,
      c.in_ok-push_target.ensures.ok,
      c.in_ok-extend.ensures.ok,
      c.new-bytes.ensures,
      c.as_bytes.ensures.value,
      c.format.ensures.text,
      c.as_bytes-2.ensures.value,
      sym c.self.view_is,
    )
    (joined c.self.inside.url c.args.text.now)

pub returns-clause-one : goal.returns-clause-one
returns-clause-one c =
    let local : is_local c.args.self.now ≡ true = subst (λ u. is_local u ≡ true) c.self.view_is c.self.invariant in
    let valid : IsValid c.args.self.now = subst IsValid c.self.view_is c.in_ok-push_target.ensures.valid in
    let fits : length c.args.text.now < 2 ^ 64 = search rules in
    one_request c.args.self.now c.args.text.now _ local valid fits (returns-clause-bytes c)
