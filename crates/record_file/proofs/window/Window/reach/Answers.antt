use Rattle.std.proofs.Common.{◌≡◌, length, take, drop, Ok, Err, refl, sym, ap, subst, ◌∙◌, arith}
use Rattle.router_disk.specs.declared.disk_call.DiskCall.TheVariants.{Read}
use Rattle.record_file.proofs.LookLemmas.{OnlyLooks-none, OnlyLooks-one}
use Rattle.record_file.proofs.FindLemmas.{Counts-none, empty_window, filled, read_window}
use Rattle.record_file.proofs.window.Window.reach.Goals as goal

pub returns-then-covers-clause-looks : goal.returns-then-covers-clause-looks
returns-then-covers-clause-looks g c = OnlyLooks-none (g.D.Disk.calls c.args.disk.now)

pub returns-then-covers-clause-count : goal.returns-then-covers-clause-count
returns-then-covers-clause-count g c = Counts-none (g.D.Disk.faults c.args.disk.now)

pub returns-then-not-make_room-clause-looks : goal.returns-then-not-make_room-clause-looks
returns-then-not-make_room-clause-looks g c = OnlyLooks-none (g.D.Disk.calls c.args.disk.now)

pub returns-then-not-make_room-clause-count : goal.returns-then-not-make_room-clause-count
returns-then-not-make_room-clause-count g c = Counts-none (g.D.Disk.faults c.args.disk.now)

pub returns-then-not-make_room-clause-window : goal.returns-then-not-make_room-clause-window
returns-then-not-make_room-clause-window g c = λ first file answers known was.
    empty_window file c.make_room.new.self (c.make_room.ensures.refused c.if-not-make_room.true)

pub returns-in-Ok-clause-looks : goal.returns-in-Ok-clause-looks
returns-in-Ok-clause-looks g c =
    OnlyLooks-one (g.D.Disk.calls c.args.disk.now) (g.D.Disk.calls c.read.new.self) (Read c.args.at c.read.new.into (Ok c.in-Ok.field-0)) tt c.in-Ok.ensures.call

pub returns-in-Ok-clause-covers : goal.returns-in-Ok-clause-covers
returns-in-Ok-clause-covers g c = λ _.
    let v = c.make_room.new.self.bytes in
    let same : length c.read.new.into ≡ length v.items = omega (arith, c.read.auto.into, ap (λ m. length m) c.as_mut_slice.ensures.value) in
    let whole : v.len ≡ length v.items = omega (arith, v.ok.0) in
    let size = ap (λ m. length m) (filled v.len c.read.new.into v.items same whole) in
    let ready = c.if-not-make_room.ensures.ready refl in
    (omega arith, omega (arith, size, same, ready, c.max-wanted.ensures))

pub returns-in-Ok-clause-window : goal.returns-in-Ok-clause-window
returns-in-Ok-clause-window g c = λ first file answers known was.
    let v = c.make_room.new.self.bytes in
    let same : length c.read.new.into ≡ length v.items = omega (arith, c.read.auto.into, ap (λ m. length m) c.as_mut_slice.ensures.value) in
    let whole : v.len ≡ length v.items = omega (arith, v.ok.0) in
    subst (λ m. m ≡ take (length m) (drop c.args.at file)) (sym (filled v.len c.read.new.into v.items same whole))
    (read_window first file (g.D.Disk.calls c.args.disk.now) (g.D.Disk.calls c.read.new.self) c.args.at c.read.new.into c.in-Ok.field-0 answers known
    c.in-Ok.ensures.call)

pub returns-in-Err-clause-looks : goal.returns-in-Err-clause-looks
returns-in-Err-clause-looks g c =
    OnlyLooks-one (g.D.Disk.calls c.args.disk.now) (g.D.Disk.calls c.read.new.self) (Read c.args.at c.read.new.into (Err c.in-Err.field-0)) tt c.in-Err.ensures.call

pub returns-in-Err-clause-window : goal.returns-in-Err-clause-window
returns-in-Err-clause-window g c = λ first file answers known was.
    c.clear.ensures.items ∙ ap (λ bytes. take (length bytes) (drop c.make_room.new.self.at file)) (sym c.clear.ensures.items)
