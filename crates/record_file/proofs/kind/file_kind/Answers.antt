use Rattle.std.proofs.Common.{◌<◌, length, Ok, Err, sym, ◌∙◌, arith}
use Rattle.router_disk.specs.declared.disk_call.DiskCall.TheVariants.{Size, Read}
use Rattle.record_file.proofs.LookLemmas.{OnlyLooks-one, OnlyLooks-then, OnlyLooks-opened}
use Rattle.record_file.proofs.KindLemmas.{begins_is, is_header, is_no_header, size_is}
use Rattle.record_file.proofs.kind.file_kind.Goals as goal

pub returns-in-Err-clause-looks : goal.returns-in-Err-clause-looks
returns-in-Err-clause-looks g c =
    OnlyLooks-one (g.D.Disk.calls c.args.disk.now) (g.D.Disk.calls c.size.new.self) (Size (Err c.in-Err.field-0)) tt c.in-Err.ensures.call

pub returns-in-Err-clause-opened : goal.returns-in-Err-clause-opened
returns-in-Err-clause-opened g c =
    OnlyLooks-opened (g.D.Disk.calls c.args.disk.now) (g.D.Disk.calls c.size.new.self) (
    OnlyLooks-one (g.D.Disk.calls c.args.disk.now) (g.D.Disk.calls c.size.new.self) (Size (Err c.in-Err.field-0)) tt c.in-Err.ensures.call)

pub returns-then-size-le9-clause-looks : goal.returns-then-size-le9-clause-looks
returns-then-size-le9-clause-looks g c =
    OnlyLooks-one (g.D.Disk.calls c.args.disk.now) (g.D.Disk.calls c.size.new.self) (Size (Ok c.in-Ok.size)) tt c.in-Ok.ensures.call

pub returns-then-size-le9-clause-opened : goal.returns-then-size-le9-clause-opened
returns-then-size-le9-clause-opened g c =
    OnlyLooks-opened (g.D.Disk.calls c.args.disk.now) (g.D.Disk.calls c.size.new.self) (
    OnlyLooks-one (g.D.Disk.calls c.args.disk.now) (g.D.Disk.calls c.size.new.self) (Size (Ok c.in-Ok.size)) tt c.in-Ok.ensures.call)

pub returns-in-Err-read-clause-looks : goal.returns-in-Err-read-clause-looks
returns-in-Err-read-clause-looks g c =
    OnlyLooks-then (g.D.Disk.calls c.args.disk.now) (g.D.Disk.calls c.size.new.self) (g.D.Disk.calls c.read.new.self)
    (OnlyLooks-one (g.D.Disk.calls c.args.disk.now) (g.D.Disk.calls c.size.new.self) (Size (Ok c.in-Ok.size)) tt c.in-Ok.ensures.call)
    (OnlyLooks-one (g.D.Disk.calls c.size.new.self) (g.D.Disk.calls c.read.new.self) (Read 0 c.read.new.into (Err c.in-Err-read.field-0)) tt c.in-Err-read.ensures.call)

pub returns-in-Err-read-clause-opened : goal.returns-in-Err-read-clause-opened
returns-in-Err-read-clause-opened g c =
    OnlyLooks-opened (g.D.Disk.calls c.args.disk.now) (g.D.Disk.calls c.read.new.self) (
    OnlyLooks-then (g.D.Disk.calls c.args.disk.now) (g.D.Disk.calls c.size.new.self) (g.D.Disk.calls c.read.new.self)
    (OnlyLooks-one (g.D.Disk.calls c.args.disk.now) (g.D.Disk.calls c.size.new.self) (Size (Ok c.in-Ok.size)) tt c.in-Ok.ensures.call)
    (OnlyLooks-one (g.D.Disk.calls c.size.new.self) (g.D.Disk.calls c.read.new.self) (Read 0 c.read.new.into (Err c.in-Err-read.field-0)) tt c.in-Err-read.ensures.call))

pub returns-then-eq-clause-looks : goal.returns-then-eq-clause-looks
returns-then-eq-clause-looks g c =
    OnlyLooks-then (g.D.Disk.calls c.args.disk.now) (g.D.Disk.calls c.size.new.self) (g.D.Disk.calls c.read.new.self)
    (OnlyLooks-one (g.D.Disk.calls c.args.disk.now) (g.D.Disk.calls c.size.new.self) (Size (Ok c.in-Ok.size)) tt c.in-Ok.ensures.call)
    (OnlyLooks-one (g.D.Disk.calls c.size.new.self) (g.D.Disk.calls c.read.new.self) (Read 0 c.read.new.into (Ok c.in-Ok-read.field-0)) tt c.in-Ok-read.ensures.call)

pub returns-then-eq-clause-opened : goal.returns-then-eq-clause-opened
returns-then-eq-clause-opened g c =
    OnlyLooks-opened (g.D.Disk.calls c.args.disk.now) (g.D.Disk.calls c.read.new.self) (
    OnlyLooks-then (g.D.Disk.calls c.args.disk.now) (g.D.Disk.calls c.size.new.self) (g.D.Disk.calls c.read.new.self)
    (OnlyLooks-one (g.D.Disk.calls c.args.disk.now) (g.D.Disk.calls c.size.new.self) (Size (Ok c.in-Ok.size)) tt c.in-Ok.ensures.call)
    (OnlyLooks-one (g.D.Disk.calls c.size.new.self) (g.D.Disk.calls c.read.new.self) (Read 0 c.read.new.into (Ok c.in-Ok-read.field-0)) tt c.in-Ok-read.ensures.call))

pub returns-else-eq-clause-looks : goal.returns-else-eq-clause-looks
returns-else-eq-clause-looks g c =
    OnlyLooks-then (g.D.Disk.calls c.args.disk.now) (g.D.Disk.calls c.size.new.self) (g.D.Disk.calls c.read.new.self)
    (OnlyLooks-one (g.D.Disk.calls c.args.disk.now) (g.D.Disk.calls c.size.new.self) (Size (Ok c.in-Ok.size)) tt c.in-Ok.ensures.call)
    (OnlyLooks-one (g.D.Disk.calls c.size.new.self) (g.D.Disk.calls c.read.new.self) (Read 0 c.read.new.into (Ok c.in-Ok-read.field-0)) tt c.in-Ok-read.ensures.call)

pub returns-else-eq-clause-opened : goal.returns-else-eq-clause-opened
returns-else-eq-clause-opened g c =
    OnlyLooks-opened (g.D.Disk.calls c.args.disk.now) (g.D.Disk.calls c.read.new.self) (
    OnlyLooks-then (g.D.Disk.calls c.args.disk.now) (g.D.Disk.calls c.size.new.self) (g.D.Disk.calls c.read.new.self)
    (OnlyLooks-one (g.D.Disk.calls c.args.disk.now) (g.D.Disk.calls c.size.new.self) (Size (Ok c.in-Ok.size)) tt c.in-Ok.ensures.call)
    (OnlyLooks-one (g.D.Disk.calls c.size.new.self) (g.D.Disk.calls c.read.new.self) (Read 0 c.read.new.into (Ok c.in-Ok-read.field-0)) tt c.in-Ok-read.ensures.call))

pub returns-then-size-le9-clause-kind : goal.returns-then-size-le9-clause-kind
returns-then-size-le9-clause-kind g c = λ first file answers known.
    let s = size_is first file (g.D.Disk.calls c.args.disk.now) (g.D.Disk.calls c.size.new.self) c.in-Ok.size answers known c.in-Ok.ensures.call in omega (arith, s.0, c.if-size-le9.true)

pub returns-then-eq-clause-kind : goal.returns-then-eq-clause-kind
returns-then-eq-clause-kind g c = λ first file answers known.
    let s = begins_is first file (g.D.Disk.calls c.args.disk.now) (g.D.Disk.calls c.size.new.self) (g.D.Disk.calls c.read.new.self) c.in-Ok.size c.read.new.into c.in-Ok-read.field-0 answers known
    c.in-Ok.ensures.call c.in-Ok-read.ensures.call (omega (arith, c.read.auto.into)) in
    let long : 9 < length file = omega (arith, s.0, c.if-size-le9.false) in
    (s.0, long, omega (arith, s.0, s.1), s.2 ∙ is_header c.read.new.into c.if-eq.ensures)

pub returns-else-eq-clause-kind : goal.returns-else-eq-clause-kind
returns-else-eq-clause-kind g c = λ first file answers known.
    let s = begins_is first file (g.D.Disk.calls c.args.disk.now) (g.D.Disk.calls c.size.new.self) (g.D.Disk.calls c.read.new.self) c.in-Ok.size c.read.new.into c.in-Ok-read.field-0 answers known
    c.in-Ok.ensures.call c.in-Ok-read.ensures.call (omega (arith, c.read.auto.into)) in
    let long : 9 < length file = omega (arith, s.0, c.if-size-le9.false) in
    (long, λ begins. is_no_header c.read.new.into c.if-eq.ensures (sym s.2 ∙ begins))
