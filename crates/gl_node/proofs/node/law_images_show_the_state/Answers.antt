use Rattle.gl_node.proofs.Shown.{shown}
use Rattle.gl_node.proofs.node.law_images_show_the_state.Goals as goal

pub returns : goal.returns
returns g c = λ s keeps on image left. shown _ s keeps _ on image left
