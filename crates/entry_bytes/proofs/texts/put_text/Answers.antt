use Rattle.entry_bytes.proofs.Formats.{text_fits}
use Rattle.entry_bytes.proofs.texts.put_text.Goals as goal

pub returns-clause-fits : goal.returns-clause-fits
returns-clause-fits c = text_fits c.extend.result c.args.text.now c.in_ok-put_len.ensures.fits c.utf8.text
