-- No bytes are text.
-- Assumes nothing.
use Rattle.texts.proofs.Parts.{no-key-text}
use Rattle.walk.proofs.list_element.Goals as goal

pub list_value-requires-clause-known : goal.list_value-requires-clause-known
list_value-requires-clause-known c = no-key-text c.args.doc.now
