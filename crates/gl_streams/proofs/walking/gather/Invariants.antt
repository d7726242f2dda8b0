use Rattle.std.proofs.Common.{◌≡◌, map, take}
use Rattle.gl_streams.specs.Ids.{matching, one_removes, ids_of}
use Rattle.gl_streams.proofs.walking.gather.Given as goal

abbrev pub invariant-loop-i : goal.invariant-loop-i
invariant-loop-i l =
    record {
      gathered : l.ids.items ≡ ids_of (matching (take l.i l.streams) l.fields);
      removal : l.removes ≡ one_removes (matching (take l.i l.streams) l.fields);
      same : map (λ own. own.items) l.patterns ≡ map (λ own. own.items) l.fn.patterns;
    }
