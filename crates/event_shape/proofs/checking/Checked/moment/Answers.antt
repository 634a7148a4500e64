use Rattle.std.proofs.Common.{sym, ap, ◌∙◌, subst, unwrap_or}
use Rattle.json_text.specs.View.{tree_of}
use Rattle.event_shape.specs.Event.{Checked}
use Rattle.event_shape.proofs.MakeLemmas.{moment_fits}
use Rattle.event_shape.proofs.checking.Checked.moment.Goals as goal

pub returns-clause-moment : goal.returns-clause-moment
returns-clause-moment c =
    let seen : Checked = record {
      source = c.self.inside.source;
      detail_type = c.self.inside.detail_type;
      resources = c.self.inside.resources.items;
      time = c.self.inside.time;
      detail = tree_of c.self.inside.detail;
      bus = c.self.inside.bus;
    } in
    rw c.unwrap_or.ensures (moment_fits seen c.args.reading c.self.invariant c.requires)
