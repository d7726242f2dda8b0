-- The fields of a reader, and what contracts see of them.
use Rattle.std.specs.Prelude.{◌≡◌, ℕ, ◌+◌, ◌*◌, ◌^◌, ◌≤◌, ◌<◌, false, length}
use Rattle.std.specs.List.{All}
use Rattle.gl_gatelog.specs.declared.reader.Opening.TheInside.{Inside}
use Rattle.gl_gatelog.specs.Progress.{OpeningView}

abbrev pub opening_of : Inside → OpeningView
opening_of s = record {
  log = record {
    log = s.log;
    segment_size = s.segment_size;
    limit = s.limit;
    place = (s.segment, s.byte);
    gated = s.gated;
    places = s.places.items;
    bytes = s.bytes;
    stopped = false;
  };
  has_begin = s.has_begin;
  area = s.area.items;
}

pub record IsReading (s : Inside) : Type 0 where
  pub segment : s.segment ≤ 1999999999
  pub within : s.byte ≤ s.bytes
  pub no_gate : s.gated ≡ false → s.byte ≡ 0
  pub held : length s.area.items < 2 ^ 63
  -- no segment but the last holds as many as 2 ^ 32 bytes of batches
  pub least : 4096 ≤ s.segment_size
  pub most : s.segment_size ≤ 2 ^ 30
  pub begins : s.segment < 1999999999 → s.byte < 2 ^ 30
  pub sum : s.bytes ≤ s.segment * 2 ^ 32 + s.byte
  pub places : All (λ (p : ℕ × ℕ). p.0 ≤ 1999999999) s.places.items
  pub first : s.has_begin ≡ false → (s.segment ≡ 0) × (s.byte ≡ 0)
