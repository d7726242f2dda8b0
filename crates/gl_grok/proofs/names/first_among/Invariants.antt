use Rattle.std.proofs.Common.{◌≡◌, List, ℕ}
use Rattle.std.specs.List.{list_any}
use Rattle.std.specs.Str.{bytes_eq}
use Rattle.gl_grok.proofs.Finding.{from_place}
use Rattle.gl_grok.proofs.names.first_among.Given as goal

abbrev pub invariant-loop-name : goal.invariant-loop-name
invariant-loop-name l = from_place (λ (name : List ℕ). list_any (λ other. bytes_eq name other.now) l.others) l.names l.name-index ≡ from_place (λ (name : List ℕ). list_any (λ other. bytes_eq name other.now) l.others) l.names 0
