-- One more rule, and one more stream.
use Rattle.std.proofs.Common.{◌≡◌, ℕ, ◌+◌, ◌<◌, Bool, true, false, ◌&&◌, ◌||◌, cond, List, [], ◌∷◌, ◌++◌, length, take, set, get_or, fold, map, Option, Vec, refl, sym, ap, ◌∙◌, arith}
use Rattle.std.specs.List.{list_all, list_any}
use Rattle.std.proofs.lemmas.List.{get_or-map, length-map, map-append, map-set, set-get_or, append-nil, with_items_is}
use Rattle.std.specs.Vec.{with_items}
use Rattle.std.proofs.lemmas.List.Elements.{filter_more}
use Rattle.std.proofs.lemmas.List.Folds.{list_any-append, list_any_more, list_any_at, list_all_more, list_all_at}
use Rattle.std.proofs.lemmas.Grind.{fold-append}
use Rattle.gl_fields.specs.declared.field.Field.{Field}
use Rattle.gl_streams.specs.declared.stream.Stream.{Stream}
use Rattle.gl_streams.specs.declared.stream.StreamRule.{StreamRule}
use Rattle.gl_streams.specs.Matching.{rule_holds, stream_matches, pattern_of, patterns_of, Fits}
use Rattle.gl_streams.specs.Ids.{matching, one_removes, with_id, ids_of}

-- The patterns at a place.

pub pattern_at : (rules : List StreamRule) (patterns : List (Option (List ℕ))) (i : ℕ) (rule : StreamRule) (d : Option (List ℕ)) →
    patterns ≡ patterns_of rules → i < length rules → rule ≡ get_or rules i rule → get_or patterns i d ≡ pattern_of rule.test
pattern_at rules patterns i rule d fits within there =
    ap (λ l. get_or l i d) fits
    ∙ get_or-map (λ (r : StreamRule). pattern_of r.test) rules i rule d within
    ∙ ap (λ (r : StreamRule). pattern_of r.test) (sym there)

module _ {V : Type 0} (items : V → List (Option (List ℕ))) where
  as_long : (streams : List Stream) (owns : List V) → Fits streams (map items owns) → length owns ≡ length streams
  as_long streams owns fits =
      sym (length-map owns items) ∙ ap length fits ∙ length-map streams (λ (s : Stream). patterns_of s.rules)

  pub own_at : (streams : List Stream) (owns : List V) (i : ℕ) (stream : Stream) (d : V) → Fits streams (map items owns) → i < length streams → stream ≡ get_or streams i stream → items (get_or owns i d) ≡ patterns_of stream.rules
  own_at streams owns i stream d fits within there =
      sym (get_or-map items owns i d (items d) (omega (arith, as_long streams owns fits)))
      ∙ ap (λ l. get_or l i (items d)) fits
      ∙ get_or-map (λ (s : Stream). patterns_of s.rules) streams i stream (items d) within
      ∙ ap (λ (s : Stream). patterns_of s.rules) (sym there)

  pub still : (streams : List Stream) (owns : List V) (i : ℕ) (d new : V) → Fits streams (map items owns) → i < length streams → items new ≡ items (get_or owns i d) → map items (set owns i new) ≡ map items owns
  still streams owns i d new fits within same =
      map-set items owns i new
      ∙ ap (set (map items owns) i) (same ∙ sym (get_or-map items owns i d (items d) (omega (arith, as_long streams owns fits))))
      ∙ set-get_or (map items owns) i (items d)

pub refilled : {X Z : Type 0} (v : Vec X Z) (ws : List X) → ws ≡ v.items → (with_items v ws).items ≡ v.items
refilled v ws e = with_items_is v ws (ap length e ∙ sym v.ok.0) ∙ e

-- One more rule.

module _ (rules : List StreamRule) (fields : List Field) (i : ℕ) (rule : StreamRule) (within : i < length rules) (there : rule ≡ get_or rules i rule) where
  abbrev holds : StreamRule → Bool
  holds r = rule_holds r fields

  pub one_found : rule_holds rule fields ≡ true → list_any holds rules ≡ true
  one_found h = list_any_at holds rules i rule within (ap holds (sym there) ∙ h)

  pub none_yet : list_any holds (take i rules) ≡ false → rule_holds rule fields ≡ false → list_any holds (take (i + 1) rules) ≡ false
  none_yet before h = list_any_more holds rules i rule within ∙ ap (λ t. t || holds (get_or rules i rule)) before ∙ ap holds (sym there) ∙ h

  pub one_fails : rule_holds rule fields ≡ false → list_all holds rules ≡ false
  one_fails h = list_all_at holds rules i rule within (ap holds (sym there) ∙ h)

  pub all_yet : list_all holds (take i rules) ≡ true → rule_holds rule fields ≡ true → list_all holds (take (i + 1) rules) ≡ true
  all_yet before h = list_all_more holds rules i rule within ∙ ap (λ t. t && holds (get_or rules i rule)) before ∙ ap holds (sym there) ∙ h

-- One more stream.

module _ (streams : List Stream) (fields : List Field) (i : ℕ) (stream : Stream) (within : i < length streams) (there : stream ≡ get_or streams i stream) where
  abbrev matches : Stream → Bool
  matches s = stream_matches s fields

  more : (b : Bool) → stream_matches stream fields ≡ b → matching (take (i + 1) streams) fields ≡ matching (take i streams) fields ++ cond b (stream ∷ []) []
  more b h =
      filter_more matches streams i stream within
      ∙ ap (λ (s : Stream). matching (take i streams) fields ++ cond (matches s) (s ∷ []) []) (sym there)
      ∙ ap (λ t. matching (take i streams) fields ++ cond t (stream ∷ []) []) h

  pub passed_over : stream_matches stream fields ≡ false → matching (take (i + 1) streams) fields ≡ matching (take i streams) fields
  passed_over h = more false h ∙ append-nil (matching (take i streams) fields)

  pub id_put : stream_matches stream fields ≡ true → with_id (ids_of (matching (take i streams) fields)) stream.id ≡ ids_of (matching (take (i + 1) streams) fields)
  id_put h =
      let found = matching (take i streams) fields in
      sym (
      ap ids_of (more true h)
      ∙ ap (fold with_id []) (map-append (λ (s : Stream). s.id) found (stream ∷ []))
      ∙ fold-append with_id [] (map (λ (s : Stream). s.id) found) (stream.id ∷ [])
      )

  or_none : (b : Bool) → (b || false) ≡ b
  or_none true = refl
  or_none false = refl

  pub removal_seen : stream_matches stream fields ≡ true → (one_removes (matching (take i streams) fields) || stream.remove_from_default) ≡ one_removes (matching (take (i + 1) streams) fields)
  removal_seen h =
      let found = matching (take i streams) fields in
      sym (
      ap one_removes (more true h)
      ∙ list_any-append (λ (s : Stream). s.remove_from_default) found (stream ∷ [])
      ∙ ap (λ t. one_removes found || t) (or_none stream.remove_from_default)
      )
