-- A desk: a node, and the ranges that its workers were given and haven't brought back.
use Rattle.std.specs.Prelude.{◌≡◌, ◌≢◌, ℕ, ◌<◌, List, [], ◌∷◌, map, length, take, get_or, All}
use Rattle.gl_node.specs.declared.mark.Claim.{Claim}
use Rattle.gl_node.specs.declared.work.Range.{Range as WorkRange}
use Rattle.gl_node.specs.declared.answer.Claimed.{Claimed}
use Rattle.gl_node.specs.declared.answer.Claimed.TheVariants.{Range, Nothing, Busy}
use Rattle.gl_node.specs.Claims.{range_of}
use Rattle.gl_node.specs.Node.{Keeps, IsRunning}
use Rattle.gl_node.specs.State.{State}
use Rattle.gl_cli.specs.declared.desk.Desk.{Desk}
use Rattle.gl_cli.specs.declared.desk.Given.{Given}

-- A desk keeps a state: its node does and is running, and the ranges are those of the state's claims, in order.
pub record DeskKeeps (desk : Desk) (s : State) : Type 0 where
  pub node : Keeps desk.node s
  pub running : IsRunning desk.node
  pub given : map {B = ℕ × WorkRange} (λ (g : Given). (g.worker, g.range)) desk.given.items ≡ map {B = ℕ × WorkRange} (λ (c : Claim). (c.worker, range_of s c.mark)) s.held

-- the first range of a worker stands at this place
pub record IsPlaceOf (given : List Given) (worker place : ℕ) : Type 0 where
  pub inside : place < length given
  pub is : (d : Given) → (get_or given place d).worker ≡ worker
  pub first : All (λ (g : Given). g.worker ≢ worker) (take place given)

-- what a claim gives a worker
abbrev pub given_by : ℕ → Claimed → List Given
given_by worker (Range range) = record { worker = worker; range = range } ∷ []
given_by worker Nothing = []
given_by worker (Busy mark) = []
