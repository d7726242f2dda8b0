-- What a line leaves of the connections.
use Rattle.std.specs.Prelude.{◌≡◌}
use Rattle.std.proofs.Common.{subst, sym}
use Rattle.gl_cli.specs.declared.connections.Connections.{Connections}
use Rattle.gl_cli.specs.declared.desk.Desk.{Desk}
use Rattle.gl_cli.specs.declared.line.Line.{Line}
use Rattle.gl_cli.specs.Sessions.{Follows}

pub follows_by : (line other : Line) (desk : Desk) (old new : Connections) → line ≡ other → Follows other desk old new → Follows line desk old new
follows_by line other desk old new is follows = subst (λ (l : Line). Follows l desk old new) (sym is) follows
