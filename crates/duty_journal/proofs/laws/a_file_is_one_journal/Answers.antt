use Rattle.duty_journal.proofs.LawLemmas as lemma
use Rattle.duty_journal.proofs.laws.a_file_is_one_journal.Goals as goal

pub returns : goal.returns
returns c = record { one_list = lemma.one_list; never_both = lemma.never_both; one_place = lemma.one_place }
