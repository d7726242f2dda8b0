use Rattle.std.proofs.Common.{◌≡◌, ◌≤◌, ◌<◌, ◌+◌, ◌-◌, ℕ, Bool, true, false, not, ◌||◌, cond, List, [], ◌∷◌, ◌++◌, map, drop, reverse, length, get_or, is_some, Option, Some, refl, sym, ap, ◌∙◌, arith}
use Rattle.std.specs.List.{list_any}
use Rattle.std.specs.Cow.{cow_str_bytes}
use Rattle.std.specs.Str.{bytes_eq}
use Rattle.std.specs.Ordering.{nat_cmp}
use Rattle.std.specs.Cmp.Lexicographic.{slice_cmp}
use Rattle.std.specs.BTreeMap.{get_by}
use Rattle.std.proofs.lemmas.List.{drop_all, drop_more, reverse-append}
use Rattle.std.proofs.lemmas.Map.Text.{btree_map_updates_str}
use Rattle.gl_gelf.specs.declared.members.Named.{Named}
use Rattle.gl_gelf.specs.Members.{has_name, are_last}
use Rattle.gl_gelf.specs.Parts.{named_view}
use Rattle.gl_gelf.proofs.Naming.{any_map}
use Rattle.gl_gelf.proofs.members.many_are_last.Goals as goal

none_last : (ms : List Named) → [] ≡ reverse (are_last (map named_view (drop (length ms) ms)))
unfolding are_last
none_last ms = ap (λ (l : List Named). reverse (are_last (map named_view l))) (sym (drop_all (length ms) ms (omega arith)))

none_any : (p : Named → Bool) (ms : List Named) → false ≡ list_any p (drop (length ms) ms)
none_any p ms = ap (list_any p) (sym (drop_all (length ms) ms (omega arith)))

first_drop : (ms : List Named) (i : ℕ) (m : Named) → 0 < i → i ≤ length ms → m ≡ get_or ms (i - 1) m → drop (i - 1) ms ≡ m ∷ drop i ms
first_drop ms i m some h m_is =
    drop_more ms (i - 1) m (omega arith) ∙ ap (λ (x : Named). x ∷ drop (i - 1 + 1) ms) (sym m_is) ∙ ap (λ (n : ℕ). m ∷ drop n ms) (let e : i - 1 + 1 ≡ i = omega arith in e)

last_more : (ms : List Named) (i : ℕ) (m : Named) (new old : List Bool) (t : Bool) → 0 < i → i ≤ length ms → m ≡ get_or ms (i - 1) m → old ≡ reverse (are_last (map named_view (drop i ms)))
    → t ≡ list_any (λ n. bytes_eq (cow_str_bytes n.name) (cow_str_bytes m.name)) (drop i ms) → new ≡ old ++ not t ∷ [] → new ≡ reverse (are_last (map named_view (drop (i - 1) ms)))
unfolding are_last
last_more ms i m new old t some h m_is old_is t_is new_is =
    new_is ∙ ap (λ (l : List Bool). l ++ not t ∷ []) old_is ∙ ap (λ (b : Bool). reverse (are_last (map named_view (drop i ms))) ++ not b ∷ []) (t_is ∙ sym (any_map (cow_str_bytes m.name) (drop i ms)))
    ∙ sym (reverse-append (not (list_any (has_name (cow_str_bytes m.name)) (map named_view (drop i ms))) ∷ []) (are_last (map named_view (drop i ms))))
    ∙ ap (λ (l : List Named). reverse (are_last (map named_view l))) (sym (first_drop ms i m some h m_is))

some_more : {X : Type 0} (t a : Bool) (v : X) (o : Option X) → is_some o ≡ a → is_some (cond t (Some v) o) ≡ t || a
some_more true a v o e = refl
some_more false a v o e = e

pub loop-i-init : goal.loop-i-init
loop-i-init c = record {
  within = omega arith;
  last = c.in_ok-last.ensures.items ∙ none_last c.args.members.now;
  seen = λ name. rw c.new-seen.ensures.empty (none_any (λ n. bytes_eq (cow_str_bytes n.name) name) c.args.members.now);
}

pub loop-i-preserved : goal.loop-i-preserved
loop-i-preserved c =
    record {
      within = omega arith;
      last = last_more c.args.members.now c.loop-i.i c.index-members-i.result c.push.new.self.items c.loop-i.last.items c.contains_key.result c.loop-i-test.true c.loop-i.invariant.within c.index-members-i.is c.loop-i.invariant.last
          (c.contains_key.ensures ∙ c.loop-i.invariant.seen c.as_str-name.result.now ∙ ap (λ (l : List ℕ). list_any (λ n. bytes_eq (cow_str_bytes n.name) l) (drop c.loop-i.i c.args.members.now)) (c.as_str-name.ensures.value ∙ ap (λ (x : Named). cow_str_bytes x.name) (sym c.index-members-i.is))) c.in_ok-push.ensures.items;
      seen = λ name.
          ap is_some (btree_map_updates_str c.as_str-name.result.now c.loop-i.seen c.insert.new.self _ c.in_ok-insert.ensures.updates name)
          ∙ some_more (bytes_eq c.as_str-name.result.now name) (list_any (λ n. bytes_eq (cow_str_bytes n.name) name) (drop c.loop-i.i c.args.members.now)) _ (get_by (λ k. slice_cmp nat_cmp name k.now) c.loop-i.seen) (c.loop-i.invariant.seen name)
          ∙ ap (λ (l : List ℕ). bytes_eq l name || list_any (λ n. bytes_eq (cow_str_bytes n.name) name) (drop c.loop-i.i c.args.members.now)) (c.as_str-name.ensures.value ∙ ap (λ (x : Named). cow_str_bytes x.name) (sym c.index-members-i.is))
          ∙ ap (list_any (λ n. bytes_eq (cow_str_bytes n.name) name)) (sym (first_drop c.args.members.now c.loop-i.i c.index-members-i.result c.loop-i-test.true c.loop-i.invariant.within c.index-members-i.is));
    }
