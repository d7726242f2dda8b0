use Rattle.gl_commands.proofs.Kept.{of_kept, own_text}
use Rattle.gl_commands.proofs.laws.law_one_command.Goals as goal

pub returns : goal.returns
returns c text command = (of_kept text command, own_text text command)
