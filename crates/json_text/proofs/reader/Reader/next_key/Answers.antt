use Rattle.std.proofs.Common.{ap, arith}
use Rattle.json_text.specs.{Reading.next_key, Kept.read_at}
use Rattle.json_text.proofs.StepLemmas.{next_key_other, goes_same, barred}
use Rattle.json_text.proofs.reader.Reader.next_key.Goals as goal

pub returns-in-34-clause-goes : goal.returns-in-34-clause-goes
returns-in-34-clause-goes c s st =
    goes_same c.args.self.now.levels s (next_key st.0 st.1) c.args.place c.key.result c.key.new.self.waiting.items c.key.new.self.repeat
    (ap (read_at c.args.self.now.levels c.args.place) st.2) (c.key.ensures.goes st.0 st.1 st.3 st.4 st.5)

pub returns-in_default-clause-goes : goal.returns-in_default-clause-goes
returns-in_default-clause-goes c s st = barred c.args.self.now.levels s (next_key st.0 st.1) c.args.byte c.args.place st.2 c.requires.first c.not_json.result
    (next_key_other c.args.self.now.levels c.args.place.at st.0 st.1 c.args.byte c.requires.no_space (omega arith)) c.not_json.ensures
