-- What a link gives (this project).
use Rattle.std.specs.Prelude.{◌≡◌, ℕ, ◌<◌, ◌≤◌, List, [], ◌∷◌, length, take, ⊤, Option, Some, None, Result, MatchResult}
use Rattle.gl_outside.specs.declared.fault.Outside.{Outside}
use Rattle.gl_outside.specs.declared.link.Received.{Received}
use Rattle.gl_outside.specs.declared.link.Received.TheVariants as received
use Rattle.gl_outside.specs.declared.link.Delivery.{Delivery}
use Rattle.gl_outside.specs.declared.link.Delivery.TheVariants as delivery

-- a datagram has at most 65,535 bytes, and the address of its peer has 1 to 255
abbrev pub IsAddress : List ℕ → Type 0
IsAddress peer = (0 < length peer) × (length peer ≤ 255)

abbrev pub IsLawful : Delivery → Type 0
IsLawful (delivery.Datagram peer bytes) = IsAddress peer × (length bytes ≤ 65535)
IsLawful delivery.Quiet = ⊤

-- what a call gives that takes the first of what is left; at the end nothing is taken
abbrev pub Gives : List Delivery → List Delivery → Received → List ℕ → List ℕ → Type 0
Gives [] rest answer into peer = (answer ≡ received.Closed) × (rest ≡ [])
Gives (delivery.Datagram from bytes ∷ items) rest answer into peer = (answer ≡ received.Datagram (length bytes)) × (take (length bytes) into ≡ bytes) × (peer ≡ from) × (rest ≡ items)
Gives (delivery.Quiet ∷ items) rest answer into peer = (answer ≡ received.Quiet) × (rest ≡ items)

-- the same where the link tells what is left; after a failed call all of it is left
abbrev pub GivesNext : Option (List Delivery) → Option (List Delivery) → Result Received Outside → List ℕ → List ℕ → Type 0
GivesNext None new result into peer = ⊤
GivesNext (Some items) None result into peer = ⊥
GivesNext (Some items) (Some rest) result into peer = MatchResult result (λ answer. Gives items rest answer into peer) (λ _. rest ≡ items)

-- the length of a datagram
abbrev pub IsShort : Received → Type 0
IsShort (received.Datagram length) = length ≤ 65535
IsShort received.Quiet = ⊤
IsShort received.Closed = ⊤

-- the address is that of the last datagram, so another answer leaves it
abbrev pub KeepsPeer : List ℕ → List ℕ → Received → Type 0
KeepsPeer before now (received.Datagram length) = IsAddress now
KeepsPeer before now received.Quiet = now ≡ before
KeepsPeer before now received.Closed = now ≡ before

abbrev pub KeepsPeerAfter : List ℕ → List ℕ → Result Received Outside → Type 0
KeepsPeerAfter before now result = MatchResult result (λ answer. KeepsPeer before now answer) (λ _. now ≡ before)

-- what contracts see of a link in memory: what is left, the last peer, which calls are to fail, how many were made and how many failed
pub record LinkView : Type 0 where
  pub left : List Delivery
  pub peer : List ℕ
  pub failing : List ℕ
  pub made : ℕ
  pub faults : ℕ
