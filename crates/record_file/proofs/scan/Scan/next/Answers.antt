use Rattle.std.proofs.Common.{◌+◌, refl, sym, ◌∙◌, arith}
use Rattle.record_file.proofs.LookLemmas.{OnlyLooks-file, OnlyLooks-answers, OnlyLooks-opened}
use Rattle.record_file.proofs.FindLemmas.{window_piece}
use Rattle.record_file.proofs.ScanLemmas.{next_closed, next_damaged, next_record}
use Rattle.record_file.proofs.scan.Scan.next.Goals as goal

pub overflow_add-self : goal.overflow_add-self
overflow_add-self g c = let both = c.in-Record.ensures.covers c.in-Record.len refl in omega (arith, both.1)

pub overflow_add-self-in-Record : goal.overflow_add-self-in-Record
overflow_add-self-in-Record g c = let both = c.in-Record.ensures.covers c.in-Record.len refl in omega (arith, both.1)

pub overflow_add-self-in-Record-2 : goal.overflow_add-self-in-Record-2
overflow_add-self-in-Record-2 g c = let both = c.in-Record.ensures.covers c.in-Record.len refl in omega (arith, both.1)

pub returns-in-Record-clause-opened : goal.returns-in-Record-clause-opened
returns-in-Record-clause-opened g c = OnlyLooks-opened (g.D.Disk.calls c.args.disk.now) (g.D.Disk.calls c.find-met.new.disk) c.find-met.ensures.looks

pub returns-in-Record-clause-scan : goal.returns-in-Record-clause-scan
returns-in-Record-clause-scan g c = λ scanned first file answers known.
    let old = g.D.Disk.calls c.args.disk.now in
    let new = g.D.Disk.calls c.find-met.new.disk in
    let before = sym (OnlyLooks-file first old new c.find-met.ensures.looks) ∙ known in
    let o = scanned first file (OnlyLooks-answers first old new c.find-met.ensures.looks answers) before in record {
      long = o.long;
      short = o.short;
      begins = o.begins;
      size = o.size;
      window = c.find-met.ensures.window first file answers before o.window;
      gate = o.gate;
      rest = o.rest;
      has = o.has;
      place = o.place;
      count = o.count;
    }

pub returns-in-Closed-clause-opened : goal.returns-in-Closed-clause-opened
returns-in-Closed-clause-opened g c = OnlyLooks-opened (g.D.Disk.calls c.args.disk.now) (g.D.Disk.calls c.find-met.new.disk) c.find-met.ensures.looks

pub returns-in-Closed-clause-scan : goal.returns-in-Closed-clause-scan
returns-in-Closed-clause-scan g c = λ scanned first file answers known.
    let old = g.D.Disk.calls c.args.disk.now in
    let new = g.D.Disk.calls c.find-met.new.disk in
    let before = sym (OnlyLooks-file first old new c.find-met.ensures.looks) ∙ known in
    let o = scanned first file (OnlyLooks-answers first old new c.find-met.ensures.looks answers) before in record {
      long = o.long;
      short = o.short;
      begins = o.begins;
      size = o.size;
      window = c.find-met.ensures.window first file answers before o.window;
      gate = o.gate;
      rest = o.rest;
      has = o.has;
      place = o.place;
      count = o.count;
    }

pub returns-in-Damaged-clause-opened : goal.returns-in-Damaged-clause-opened
returns-in-Damaged-clause-opened g c = OnlyLooks-opened (g.D.Disk.calls c.args.disk.now) (g.D.Disk.calls c.find-met.new.disk) c.find-met.ensures.looks

pub returns-in-Damaged-clause-scan : goal.returns-in-Damaged-clause-scan
returns-in-Damaged-clause-scan g c = λ scanned first file answers known.
    let old = g.D.Disk.calls c.args.disk.now in
    let new = g.D.Disk.calls c.find-met.new.disk in
    let before = sym (OnlyLooks-file first old new c.find-met.ensures.looks) ∙ known in
    let o = scanned first file (OnlyLooks-answers first old new c.find-met.ensures.looks answers) before in record {
      long = o.long;
      short = o.short;
      begins = o.begins;
      size = o.size;
      window = c.find-met.ensures.window first file answers before o.window;
      gate = o.gate;
      rest = o.rest;
      has = o.has;
      place = o.place;
      count = o.count;
    }

pub returns-in-Failed-clause-opened : goal.returns-in-Failed-clause-opened
returns-in-Failed-clause-opened g c = OnlyLooks-opened (g.D.Disk.calls c.args.disk.now) (g.D.Disk.calls c.find-met.new.disk) c.find-met.ensures.looks

pub returns-in-Failed-clause-scan : goal.returns-in-Failed-clause-scan
returns-in-Failed-clause-scan g c = λ scanned first file answers known.
    let old = g.D.Disk.calls c.args.disk.now in
    let new = g.D.Disk.calls c.find-met.new.disk in
    let before = sym (OnlyLooks-file first old new c.find-met.ensures.looks) ∙ known in
    let o = scanned first file (OnlyLooks-answers first old new c.find-met.ensures.looks answers) before in record {
      long = o.long;
      short = o.short;
      begins = o.begins;
      size = o.size;
      window = c.find-met.ensures.window first file answers before o.window;
      gate = o.gate;
      rest = o.rest;
      has = o.has;
      place = o.place;
      count = o.count;
    }

pub returns-in-NoMemory-clause-opened : goal.returns-in-NoMemory-clause-opened
returns-in-NoMemory-clause-opened g c = OnlyLooks-opened (g.D.Disk.calls c.args.disk.now) (g.D.Disk.calls c.find-met.new.disk) c.find-met.ensures.looks

pub returns-in-NoMemory-clause-scan : goal.returns-in-NoMemory-clause-scan
returns-in-NoMemory-clause-scan g c = λ scanned first file answers known.
    let old = g.D.Disk.calls c.args.disk.now in
    let new = g.D.Disk.calls c.find-met.new.disk in
    let before = sym (OnlyLooks-file first old new c.find-met.ensures.looks) ∙ known in
    let o = scanned first file (OnlyLooks-answers first old new c.find-met.ensures.looks answers) before in record {
      long = o.long;
      short = o.short;
      begins = o.begins;
      size = o.size;
      window = c.find-met.ensures.window first file answers before o.window;
      gate = o.gate;
      rest = o.rest;
      has = o.has;
      place = o.place;
      count = o.count;
    }

pub returns-in-Closed-clause-next : goal.returns-in-Closed-clause-next
returns-in-Closed-clause-next g c = λ scanned first file answers known.
    let old = g.D.Disk.calls c.args.disk.now in
    let new = g.D.Disk.calls c.find-met.new.disk in
    let before = sym (OnlyLooks-file first old new c.find-met.ensures.looks) ∙ known in
    let o = scanned first file (OnlyLooks-answers first old new c.find-met.ensures.looks answers) before in
    next_closed c.args.self.now.first file c.args.self.now.found c.args.self.now.place o.gate o.rest o.has o.place (c.in-Closed.ensures.found first file answers before o.window o.size)

pub returns-in-Damaged-clause-next : goal.returns-in-Damaged-clause-next
returns-in-Damaged-clause-next g c = λ scanned first file answers known.
    let old = g.D.Disk.calls c.args.disk.now in
    let new = g.D.Disk.calls c.find-met.new.disk in
    let before = sym (OnlyLooks-file first old new c.find-met.ensures.looks) ∙ known in
    let o = scanned first file (OnlyLooks-answers first old new c.find-met.ensures.looks answers) before in
    next_damaged c.args.self.now.first file c.args.self.now.found c.args.self.now.place o.gate o.rest o.has o.place (c.in-Damaged.ensures.found first file answers before o.window o.size)

pub returns-in-Record-clause-next : goal.returns-in-Record-clause-next
returns-in-Record-clause-next g c = λ scanned first file answers known.
    let old = g.D.Disk.calls c.args.disk.now in
    let new = g.D.Disk.calls c.find-met.new.disk in
    let before = sym (OnlyLooks-file first old new c.find-met.ensures.looks) ∙ known in
    let o = scanned first file (OnlyLooks-answers first old new c.find-met.ensures.looks answers) before in
    let both = c.in-Record.ensures.covers c.in-Record.len refl in
    let window = c.find-met.ensures.window first file answers before o.window in
    let place = c.args.self.now.place in
    next_record c.args.self.now.first file c.args.self.now.found place o.gate o.rest o.has o.place c.in-Record.len _ (omega (arith, both.1, o.size, o.short))
    (window_piece file c.find-met.new.window (place + 9) c.in-Record.len window both.0)
    (c.in-Record.ensures.found first file answers before o.window o.size)
