use Rattle.record_file.proofs.ScanLemmas as lemma
use Rattle.record_file.proofs.laws.one_reading.Goals as goal

pub returns : goal.returns
returns c = record { one_list = lemma.one_list; never_both = lemma.never_both; one_place = lemma.one_place }
