use Rattle.std.proofs.Common.{◌≡◌, ◌+◌, ◌≤◌, ◌^◌, ◌<◌, ℕ, List, length, All, ap, arith}
use Rattle.std.specs.List.{sum_by}
use Rattle.std.proofs.lemmas.List.Sums.{sum_by-le}
use Rattle.std.proofs.lemmas.List.Elements.{All-weaker}
use Rattle.delivery_queues.specs.Queues.{Queue}
use Rattle.delivery_duties.specs.Duties.{Duties}
use Rattle.delivery_duties.specs.Sound.{IsQueueWithin}
use Rattle.delivery_duties.proofs.duties.Duties.messages.Goals as goal

-- each of so many queues was sent at most so many messages
few : (queues : List Queue) (ended created count : ℕ) → created ≡ ended + count → created < 2 ^ 53 → length queues ≤ 1000
    → All (IsQueueWithin ended) queues → sum_by (λ (m : Queue). m.sent) queues < 2 ^ 64
few queues ended created count is small rows within =
    let each : All (λ (m : Queue). m.sent ≤ 2 ^ 53) queues =
    All-weaker (IsQueueWithin ended) (λ (m : Queue). m.sent ≤ 2 ^ 53) (λ m h. omega (arith, h, is, small)) queues within in
    omega (arith, sum_by-le (λ (m : Queue). m.sent) (2 ^ 53) queues each, rows)

pub count-requires : goal.count-requires
count-requires c =
    let same = c.self.view_is in
    few c.self.inside.queues (length c.self.inside.ended) c.self.inside.created (length c.self.inside.pending) (omega (arith, c.self.invariant.one_state))
    (omega (arith, c.requires.1, ap (λ (d : Duties). d.created) same)) (omega (arith, c.requires.0, ap (λ (d : Duties). length d.queues) same))
    c.self.invariant.queues_within
