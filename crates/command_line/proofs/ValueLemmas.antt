-- Words are one command at most: `command_once`. Its workers: `workers_within`. Which refusals hold of more: `denies_more`, `denied`.
use Rattle.std.proofs.Common.{◌≡◌, ◌∙◌, ◌<◌, ◌≤◌, ◌^◌, ℕ, refl, sym, ap, List, Option, Some, None, false, codes, IsSomeAnd, MatchOption, arith, true≢false}
use Rattle.std.specs.Str.{bytes_eq}
use Rattle.std.proofs.lemmas.Slice.Eq.{bytes_eq-Decides}
use Rattle.clap.specs.Simple.{subcommand_of}
use Rattle.clap.specs.Walk.{Row, Text, first_of}
use Rattle.command_line.specs.Command.{CommandView, IsEntered, IsCommand, IsOptional, serve, once, check, drill}
use Rattle.command_line.specs.Number.{IsNumber}
use Rattle.command_line.specs.Reading.{Denies, IsRead, IsRefusal}
use Rattle.command_line.specs.Table.{ebusd}
use Rattle.command_line.specs.declared.fault.WordsFault.{WordsFault}
use Rattle.command_line.specs.declared.fault.WordsFault.TheVariants as faults
use Rattle.command_line.proofs.NumberLemmas.{number_once}

number_or_once : (least most absent : ℕ) (o : Option Text) (m n : ℕ) → most < 2 ^ 64 → MatchOption o (m ≡ absent) (λ word. IsNumber least most word m)
    → MatchOption o (n ≡ absent) (λ word. IsNumber least most word n) → m ≡ n
number_or_once least most absent None m n small p q = p ∙ sym q
number_or_once least most absent (Some word) m n small p q = number_once least most word m n small p q

optional_once : (least most : ℕ) (o : Option Text) (a b : Option ℕ) → most < 2 ^ 64 → IsOptional least most o a → IsOptional least most o b → a ≡ b
optional_once least most None a b small p q = p ∙ sym q
optional_once least most (Some word) None b small p q = absurd p
optional_once least most (Some word) (Some m) None small p q = absurd q
optional_once least most (Some word) (Some m) (Some n) small p q = ap Some (number_once least most word m n small p q)

needed_once : (least most : ℕ) (o : Option Text) (m n : ℕ) → most < 2 ^ 64 → IsSomeAnd o (λ word. IsNumber least most word m)
    → IsSomeAnd o (λ word. IsNumber least most word n) → m ≡ n
needed_once least most None m n small p q = absurd p
needed_once least most (Some word) m n small p q = number_once least most word m n small p q

some_once : {X : Type 0} (x y : X) → Some x ≡ Some y → x ≡ y
some_once x y e = cc

differ : {X : Type 0} (x y z : Text) → bytes_eq x y ≡ false → z ≡ x → z ≡ y → X
differ x y z h p q = absurd (true≢false (sym ((bytes_eq-Decides x y).1 (sym p ∙ q)) ∙ h))

read_once : (name : Text) (rows : List Row) (a b : CommandView) → IsRead name rows a → IsRead name rows b → a ≡ b
read_once name rows (serve j p w c) (serve j2 p2 w2 c2) (n, h) (n2, h2) =
    let journal : j ≡ j2 = sym h.0 ∙ h2.0 in
    let port : p ≡ p2 = number_or_once 1 65535 9100 (first_of (codes "port") rows) p p2 (omega arith) h.1 h2.1 in
    let workers : w ≡ w2 = number_or_once 1 1024 64 (first_of (codes "workers") rows) w w2 (omega arith) h.2 h2.2 in
    let connections : c ≡ c2 = optional_once 1 1000000 (first_of (codes "connections") rows) c c2 (omega arith) h.3 h2.3 in
    λ i. serve (journal i) (port i) (workers i) (connections i)
read_once name rows (once j t) (once j2 t2) (n, h) (n2, h2) =
    let journal : j ≡ j2 = sym h.0 ∙ h2.0 in
    let now : t ≡ t2 = optional_once 0 250000000000 (first_of (codes "now") rows) t t2 (omega arith) h.1 h2.1 in
    λ i. once (journal i) (now i)
read_once name rows (check j) (check j2) (n, h) (n2, h2) = ap check (some_once j j2 (sym h ∙ h2))
read_once name rows (drill s e) (drill s2 e2) (n, h) (n2, h2) =
    let seed : s ≡ s2 = needed_once 0 2147483647 (first_of (codes "seed") rows) s s2 (omega arith) h.0 h2.0 in
    let events : e ≡ e2 = needed_once 1 100000 (first_of (codes "events") rows) e e2 (omega arith) h.1 h2.1 in
    λ i. drill (seed i) (events i)
read_once name rows (serve j p w c) (once j2 t2) (n, h) (n2, h2) = differ (codes "serve") (codes "once") name refl n n2
read_once name rows (serve j p w c) (check j2) (n, h) (n2, h2) = differ (codes "serve") (codes "check") name refl n n2
read_once name rows (serve j p w c) (drill s2 e2) (n, h) (n2, h2) = differ (codes "serve") (codes "drill") name refl n n2
read_once name rows (once j t) (serve j2 p2 w2 c2) (n, h) (n2, h2) = differ (codes "once") (codes "serve") name refl n n2
read_once name rows (once j t) (check j2) (n, h) (n2, h2) = differ (codes "once") (codes "check") name refl n n2
read_once name rows (once j t) (drill s2 e2) (n, h) (n2, h2) = differ (codes "once") (codes "drill") name refl n n2
read_once name rows (check j) (serve j2 p2 w2 c2) (n, h) (n2, h2) = differ (codes "check") (codes "serve") name refl n n2
read_once name rows (check j) (once j2 t2) (n, h) (n2, h2) = differ (codes "check") (codes "once") name refl n n2
read_once name rows (check j) (drill s2 e2) (n, h) (n2, h2) = differ (codes "check") (codes "drill") name refl n n2
read_once name rows (drill s e) (serve j2 p2 w2 c2) (n, h) (n2, h2) = differ (codes "drill") (codes "serve") name refl n n2
read_once name rows (drill s e) (once j2 t2) (n, h) (n2, h2) = differ (codes "drill") (codes "once") name refl n n2
read_once name rows (drill s e) (check j2) (n, h) (n2, h2) = differ (codes "drill") (codes "check") name refl n n2

pub entered_once : (entered : Option (Text × List Row)) (a b : CommandView) → IsEntered entered a → IsEntered entered b → a ≡ b
entered_once None a b p q = absurd p
entered_once (Some found) a b p q = read_once found.0 found.1 a b p q

pub command_once : (words : List Text) (a b : CommandView) → IsCommand words a → IsCommand words b → a ≡ b
command_once words a b p q = entered_once (subcommand_of ebusd words) a b p.1 q.1

-- ---- the workers of a command

number_within : (least most absent : ℕ) (o : Option Text) (n : ℕ) → least ≤ absent → absent ≤ most
    → MatchOption o (n ≡ absent) (λ word. IsNumber least most word n) → (least ≤ n) × (n ≤ most)
number_within least most absent None n low high h = (omega (arith, low, h), omega (arith, high, h))
number_within least most absent (Some word) n low high h = (h.0, h.1)

workers_entered : (entered : Option (Text × List Row)) (journal : Option Text) (port workers : ℕ) (connections : Option ℕ) → IsEntered entered (serve journal port workers connections)
    → (1 ≤ workers) × (workers ≤ 1024)
workers_entered None journal port workers connections h = absurd h
workers_entered (Some found) journal port workers connections h =
    number_within 1 1024 64 (first_of (codes "workers") found.1) workers (omega arith) (omega arith) h.1.2

pub workers_within : (words : List Text) (journal : Option Text) (port workers : ℕ) (connections : Option ℕ) → IsCommand words (serve journal port workers connections)
    → (1 ≤ workers) × (workers ≤ 1024)
workers_within words journal port workers connections h = workers_entered (subcommand_of ebusd words) journal port workers connections h.1

-- ---- refusals

pub denies_more : (A B : Type 0) (fault : WordsFault) → (B → A) → Denies A fault → Denies B fault
denies_more A B (faults.Help text) f h = absurd h
denies_more A B (faults.Refused text) f h = λ b. h (f b)
denies_more A B faults.NoMemory f h = tt

pub denied : (A : Type 0) (fault : WordsFault) → ¬ A → IsRefusal fault → Denies A fault
denied A (faults.Help text) f h = absurd h
denied A (faults.Refused text) f h = f
denied A faults.NoMemory f h = tt

-- ---- a command of one name

pub serve_values : (rows : List Row) (c : CommandView) → IsRead (codes "serve") rows c
    → ((port : ℕ) × MatchOption (first_of (codes "port") rows) (port ≡ 9100) (λ word. IsNumber 1 65535 word port))
    × ((workers : ℕ) × MatchOption (first_of (codes "workers") rows) (workers ≡ 64) (λ word. IsNumber 1 1024 word workers))
    × ((connections : Option ℕ) × IsOptional 1 1000000 (first_of (codes "connections") rows) connections)
serve_values rows (serve j p w c) (n, h) = ((p, h.1), (w, h.2), (c, h.3))
serve_values rows (once j t) (n, h) = differ (codes "serve") (codes "once") (codes "serve") refl refl n
serve_values rows (check j) (n, h) = differ (codes "serve") (codes "check") (codes "serve") refl refl n
serve_values rows (drill s e) (n, h) = differ (codes "serve") (codes "drill") (codes "serve") refl refl n

pub drill_values : (rows : List Row) (c : CommandView) → IsRead (codes "drill") rows c
    → ((seed : ℕ) × IsSomeAnd (first_of (codes "seed") rows) (λ word. IsNumber 0 2147483647 word seed))
    × ((events : ℕ) × IsSomeAnd (first_of (codes "events") rows) (λ word. IsNumber 1 100000 word events))
drill_values rows (serve j p w c) (n, h) = differ (codes "drill") (codes "serve") (codes "drill") refl refl n
drill_values rows (once j t) (n, h) = differ (codes "drill") (codes "once") (codes "drill") refl refl n
drill_values rows (check j) (n, h) = differ (codes "drill") (codes "check") (codes "drill") refl refl n
drill_values rows (drill s e) (n, h) = ((s, h.0), (e, h.1))

-- ---- a number that may be absent

pub or_optional : (least most absent : ℕ) (o : Option Text) (n : ℕ) → MatchOption o (n ≡ absent) (λ word. IsNumber least most word n)
    → (number : Option ℕ) × IsOptional least most o number
or_optional least most absent None n h = (None, refl)
or_optional least most absent (Some word) n h = (Some n, h)

pub needed_optional : (least most : ℕ) (o : Option Text) (n : ℕ) → IsSomeAnd o (λ word. IsNumber least most word n)
    → (number : Option ℕ) × IsOptional least most o number
needed_optional least most None n h = absurd h
needed_optional least most (Some word) n h = (Some n, h)
