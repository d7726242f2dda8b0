use Rattle.std.proofs.Common.{append_assoc, rules}
use Rattle.gl_cli.proofs.print.undecodable_text.Goals as goal

pub returns-in-NotJson : goal.returns-in-NotJson
returns-in-NotJson c = rw c.in-NotJson.is (search (rules, append_assoc))

pub returns-in-TooDeep : goal.returns-in-TooDeep
returns-in-TooDeep c = rw c.in-TooDeep.is (search (rules, append_assoc))

pub returns-in-Compressed : goal.returns-in-Compressed
returns-in-Compressed c = rw c.in-Compressed.is (search (rules, append_assoc))

pub returns-in-NoShortMessage : goal.returns-in-NoShortMessage
returns-in-NoShortMessage c = rw c.in-NoShortMessage.is (search (rules, append_assoc))

pub returns-in-TooManyFields : goal.returns-in-TooManyFields
returns-in-TooManyFields c = rw c.in-TooManyFields.is (search (rules, append_assoc))

pub returns-in-TooLarge : goal.returns-in-TooLarge
returns-in-TooLarge c = rw c.in-TooLarge.is (search (rules, append_assoc))
