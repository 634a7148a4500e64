use Rattle.std.proofs.Common.{subst, ◌∙◌}
use Rattle.router_disk.specs.Sink.{AddsBytes}
use Rattle.bus_server.proofs.program.report.Goals as goal

pub returns : goal.returns
returns g c = (c.write_all.result, subst (AddsBytes _ _ c.write_all.result) (c.as_slice.ensures ∙ c.line-text.ensures) c.write_all.ensures.wrote, c.write_all.ensures.count)
