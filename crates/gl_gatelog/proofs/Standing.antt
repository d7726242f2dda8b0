-- What a written batch makes of a log that stands on a disk.
use Rattle.std.proofs.Common.{◌≡◌, inl, inr, ⊎_elim, ℕ, ◌+◌, ◌^◌, ◌≤◌, ◌<◌, List, [], ◌∷◌, ◌++◌, length, sym, ◌∙◌, ap, subst, arith, Bool, false, Vec, append_assoc, replicate, ◌||◌}
use Rattle.std.specs.declared.alloc.Global.{Global}
use Rattle.std.specs.List.{All}
use lib.Dec.{ltb, eqb}
use Rattle.std.proofs.lemmas.List.{append-nil, length-map}
use Rattle.std.proofs.lemmas.List.Elements.{All-nil, All-cons}
use Rattle.std.proofs.lemmas.Bool.Decides.{nat_tests}
use Rattle.gl_outside.specs.Disk.{Image, DiskState, InArea, After, Follows}
use Rattle.gl_gatelog.specs.declared.kind.Log.{Log}
use Rattle.gl_gatelog.specs.Batch.{Batch, IsLawful, size, staged}
use Rattle.gl_gatelog.specs.Gate.{IsOpened, ClosedOrOpened, Waits, StillWaits}
use Rattle.gl_gatelog.specs.Log.{area_of, Place, begin, log_end, next, next_by, last_segment, places_from, bytes_of, end_of, same_segment, behind_batch}
use Rattle.gl_gatelog.specs.View.{GateView, batch_of, has_long, appended}
use Rattle.gl_gatelog.specs.Stand.{StandsOn, BeforeOrWith}
use Rattle.gl_gatelog.proofs.Chain.{end_snoc}
use Rattle.gl_gatelog.proofs.Steps.{closed_log, opened_log, next_waits, shut_or_none}

short_head : (r : List ℕ) (rest : Batch) → has_long (r ∷ rest) ≡ false → (length r ≤ 2 ^ 22) × (has_long rest ≡ false)
short_head r rest none = grind (arith, nat_tests)

all_short : (batch : Batch) → has_long batch ≡ false → All (λ (r : List ℕ). length r ≤ 2 ^ 22) batch
all_short [] none = All-nil (λ (r : List ℕ). length r ≤ 2 ^ 22)
all_short (r ∷ rest) none = All-cons (λ (r : List ℕ). length r ≤ 2 ^ 22) r rest (short_head r rest none).0 (all_short rest (short_head r rest none).1)

pub lawful : (records : List (Vec ℕ Global)) → 0 < length records → length records ≤ 256 → has_long (batch_of records) ≡ false → IsLawful (batch_of records)
lawful records some few none = record {
  some = omega (arith, length-map records (λ (v : Vec ℕ Global). v.items));
  few = omega (arith, length-map records (λ (v : Vec ℕ Global). v.items));
  short = all_short (batch_of records) none;
}

pub places_snoc : (log : Log) (s : ℕ) (place : Place) (batches : List Batch) (b : Batch) → places_from log s place (batches ++ b ∷ []) ≡ places_from log s place batches ++ replicate (length b) (end_of log s place batches)
places_snoc log s place [] b = append-nil (replicate (length b) place)
places_snoc log s place (c ∷ batches) b =
    ap (λ (l : List Place). replicate (length c) place ++ l) (places_snoc log s (next log s place c) batches b)
    ∙ sym (append_assoc (replicate (length c) place) (places_from log s (next log s place c) batches) (replicate (length b) (end_of log s (next log s place c) batches)))

pub bytes_snoc : (batches : List Batch) (b : Batch) → bytes_of (batches ++ b ∷ []) ≡ bytes_of batches + size b
bytes_snoc [] b = omega arith
bytes_snoc (c ∷ batches) b = omega (arith, bytes_snoc batches b)

-- the fields after a batch are those of `appended`
pub grown : (v : GateView) (batch : Batch) (n count : ℕ) (place : Place) (gated : Bool) (places : List Place) (bytes : ℕ)
    → n ≡ size batch → count ≡ length batch → place ≡ next_by v.log v.segment_size v.place n → gated ≡ same_segment v.log v.segment_size (v.place.0, v.place.1 + n)
    → places ≡ v.places ++ replicate count v.place → bytes ≡ v.bytes + n → record v { place = place; gated = gated; places = places; bytes = bytes } ≡ appended v batch
grown v batch n count place gated places bytes is_size is_count is_place is_gated is_places is_bytes = λ i. record v {
  place = (is_place ∙ ap (λ (k : ℕ). next_by v.log v.segment_size v.place k) is_size) i;
  gated = (is_gated ∙ ap (λ (k : ℕ). ltb (v.place.1 + k) v.segment_size || eqb v.place.0 (last_segment v.log)) is_size) i;
  places = (is_places ∙ ap (λ (k : ℕ). v.places ++ replicate k v.place) is_count) i;
  bytes = (is_bytes ∙ ap (λ (k : ℕ). v.bytes + k) is_size) i;
}

pub same_view : (w v : GateView) (b : List Batch) (d : DiskState) → w ≡ v → StandsOn v b d → StandsOn w b d
same_view w v b d e stands = subst (λ (x : GateView). StandsOn x b d) (sym e) stands

module _ (view : GateView) (batches : List Batch) (d0 d1 : DiskState) (stands : StandsOn view batches d0) where
  e : Place
  e = log_end view.log view.segment_size batches

  -- an image that a step in the area of the log's end made
  abbrev Stepped : (ℕ → List ℕ → List ℕ → Type 0) → Image → Place → Type 0
  Stepped step c place = After d0 (InArea (area_of view.log place.0) (step place.1)) c

  at_end : (step : ℕ → List ℕ → List ℕ → Type 0) (c : Image) → Stepped step c view.place → Stepped step c (log_end view.log view.segment_size batches)
  at_end step c after = subst (Stepped step c) stands.place after

  pub left_by : (batch : Batch) → IsLawful batch → (c : Image) → After d0 (InArea (area_of view.log view.place.0) (ClosedOrOpened view.place.1 (staged batch))) c → BeforeOrWith view batches batch d0 c
  left_by batch is_lawful c at_place =
      let after = at_end (λ at. ClosedOrOpened at (staged batch)) c at_place in
      let was = stands.images after.from after.image in
      record {
        from = after.from;
        image = after.image;
        steps = record {
          elsewhere = after.steps.elsewhere;
          before_or_with = ⊎_elim
              (λ closed. inl (closed_log view.log view.segment_size batches after.from c was after.steps.elsewhere closed))
              (λ opens. inr (opened_log view.log view.segment_size batches after.from c batch is_lawful was after.steps.elsewhere opens))
              after.steps.there;
        };
      }

  pub still_stands : Follows (InArea (area_of view.log view.place.0) (StillWaits view.gated view.place.1)) d0 d1 → StandsOn view batches d1
  still_stands follows = record {
    images = λ c now.
        let after = at_end (λ at. StillWaits view.gated at) c (follows c now) in
        closed_log view.log view.segment_size batches after.from c (stands.images after.from after.image) after.steps.elsewhere
        (record { before = after.steps.there.before; closed = shut_or_none view.gated _ _ after.steps.there.waits });
    gate = λ c now. (follows c now).steps.there.waits;
    place = stands.place;
    places = stands.places;
    bytes = stands.bytes;
  }

  pub with_batch : (batch : Batch) → IsLawful batch → Follows (InArea (area_of view.log view.place.0) (IsOpened view.place.1 (staged batch))) d0 d1 → StandsOn (appended view batch) (batches ++ batch ∷ []) d1
  with_batch batch is_lawful follows = record {
    images = λ c now.
        let after = at_end (λ at. IsOpened at (staged batch)) c (follows c now) in
        opened_log view.log view.segment_size batches after.from c batch is_lawful (stands.images after.from after.image) after.steps.elsewhere after.steps.there;
    gate = λ c now.
        let after = at_end (λ at. IsOpened at (staged batch)) c (follows c now) in
        subst (λ (p : Place). Waits (same_segment view.log view.segment_size (behind_batch p batch)) (next view.log view.segment_size p batch).1 (c (area_of view.log (next view.log view.segment_size p batch).0))) (sym stands.place)
        (next_waits view.log view.segment_size batches after.from c batch (stands.images after.from after.image) after.steps.elsewhere after.steps.there);
    place = ap (λ (p : Place). next view.log view.segment_size p batch) stands.place ∙ sym (end_snoc view.log view.segment_size (0, 0) (begin view.log view.segment_size ∷ batches) batch);
    places =
        ap (λ (l : List Place). l ++ replicate (length batch) view.place) stands.places
        ∙ ap (λ (p : Place). places_from view.log view.segment_size (next view.log view.segment_size (0, 0) (begin view.log view.segment_size)) batches ++ replicate (length batch) p) stands.place
        ∙ sym (places_snoc view.log view.segment_size (next view.log view.segment_size (0, 0) (begin view.log view.segment_size)) batches batch);
    bytes = omega (arith, stands.bytes, bytes_snoc batches batch);
  }
