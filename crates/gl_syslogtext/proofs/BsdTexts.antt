-- Messages of RFC 3164: what is read has the form, and what has the form is read.
use Rattle.std.proofs.Common.{◌≡◌, ℕ, ◌+◌, ◌<◌, ◌≤◌, ◌⊎◌, inl, inr, ◌&&◌, true, cond, eqb, nat_lt, List, ◌∷◌, ◌++◌, length, get_or, take, drop, drop-cons, add-one, refl, sym, ap, subst, ◌∙◌, arith}
use Rattle.std.specs.Prelude.{Some, None}
use Rattle.std.proofs.lemmas.Bool.{eqb-true, cases_lt}
use Rattle.std.proofs.lemmas.List.{take-append-drop, get_or_past}
use Rattle.std.proofs.Math.Seq.{take-append_seam, drop-append-add, get_or-append_seam}
use Rattle.gl_syslogtext.specs.declared.bsd.BsdStamp.{BsdStamp}
use Rattle.gl_syslogtext.specs.declared.bsd.BsdParts.{BsdParts}
use Rattle.gl_syslogtext.specs.Sections.{split, pri_in, pri_at}
use Rattle.gl_syslogtext.specs.Rfc5424.{up_to}
use Rattle.gl_syslogtext.specs.Rfc3164.{bsd_stamp_of, bsd_stamp_at, bsd_parts_of, Reads3164}
use Rattle.gl_syslogtext.proofs.Peel.{bind_then, some_is, guard_ok, split_again, split_sound, section_at, section_again, section_sound}

pri_is : (text : List ℕ) → pri_at text ≡ section_at 62 pri_in text
unfolding pri_at section_at
pri_is text = refl

stamp_len : (text : List ℕ) (s : BsdStamp) → bsd_stamp_of text ≡ Some s → length text ≡ 15
unfolding bsd_stamp_of
stamp_len text s h =
    bind_then (cond (eqb (length text) 15 && eqb (get_or text 3 0) 32 && eqb (get_or text 6 0) 32) (Some text) None) _ s h (λ spaced e k.
    let g = guard_ok (eqb (length text) 15 && eqb (get_or text 3 0) 32 && eqb (get_or text 6 0) 32) text spaced e in
    grind arith)

-- the same of any place and length, which stand for 15 and 16
stamp_front : (stamp rest : List ℕ) (n : ℕ) → length stamp ≡ n → (get_or (stamp ++ 32 ∷ rest) n 0 ≡ 32) × (take n (stamp ++ 32 ∷ rest) ≡ stamp) × (drop (n + 1) (stamp ++ 32 ∷ rest) ≡ rest)
stamp_front stamp rest n e = (
  ap (λ k. get_or (stamp ++ 32 ∷ rest) k 0) (sym e) ∙ get_or-append_seam stamp 32 rest 0,
  ap (λ k. take k (stamp ++ 32 ∷ rest)) (sym e) ∙ take-append_seam stamp (32 ∷ rest),
  ap (λ k. drop (k + 1) (stamp ++ 32 ∷ rest)) (sym e) ∙ drop-append-add stamp (32 ∷ rest) 1,
)

stamp_again : (stamp : List ℕ) (s : BsdStamp) (rest : List ℕ) → bsd_stamp_of stamp ≡ Some s → bsd_stamp_at (stamp ++ 32 ∷ rest) ≡ Some (s, rest)
unfolding bsd_stamp_at
stamp_again stamp s rest h =
    let f = stamp_front stamp rest 15 (stamp_len stamp s h) in
    rw (f.0, f.1, h, f.2) refl

cut_within : (text : List ℕ) (n : ℕ) → n < length text → get_or text n 0 ≡ 32 → text ≡ take n text ++ 32 ∷ drop (n + 1) text
cut_within text n lt at =
    let rest : drop n text ≡ get_or text n 0 ∷ drop (n + 1) text = rw add-one (drop-cons text n 0 lt) in
    sym (take-append-drop n text) ∙ ap (λ y. take n text ++ y) (rest ∙ ap (λ b. b ∷ drop (n + 1) text) at)

cut_by : (text : List ℕ) (n : ℕ) → (n < length text) ⊎ (length text ≤ n) → get_or text n 0 ≡ 32 → text ≡ take n text ++ 32 ∷ drop (n + 1) text
cut_by text n (inl lt) at = cut_within text n lt at
cut_by text n (inr le) at =
    let none : get_or text n 0 ≡ 0 = get_or_past text n 0 le in
    absurd (omega (arith, at, none))

cut_at : (text : List ℕ) (n : ℕ) → eqb (get_or text n 0) 32 ≡ true → text ≡ take n text ++ 32 ∷ drop (n + 1) text
cut_at text n h = cut_by text n (cases_lt n (length text)) (eqb-true (get_or text n 0) 32 h)

pub bsd_again : (text : List ℕ) (parts : BsdParts) → Reads3164 text parts → bsd_parts_of text ≡ Some parts
unfolding bsd_parts_of
bsd_again text parts r =
    let tail = up_to parts.host 32 parts.msg in
    let header = r.stamp ++ 32 ∷ tail in
    let e1 : pri_at (up_to r.priority 62 header) ≡ Some (parts.pri, header) = pri_is _ ∙ section_again 62 pri_in r.priority parts.pri header r.is_priority in
    let e2 : bsd_stamp_at header ≡ Some (parts.stamp, tail) = stamp_again r.stamp parts.stamp tail r.is_stamp in
    let e3 : split 32 tail ≡ Some (parts.host, parts.msg) = split_again 32 parts.host parts.msg r.one in
    let some : nat_lt 0 (length parts.host) ≡ true = grind (arith, r.some) in
    rw (r.whole, e1, e2, e3, some) refl

stamp_sound : (text : List ℕ) (x : BsdStamp × List ℕ) → bsd_stamp_at text ≡ Some x → (text ≡ take 15 text ++ 32 ∷ x.1) × (bsd_stamp_of (take 15 text) ≡ Some x.0)
unfolding bsd_stamp_at
stamp_sound text x h =
    bind_then (cond (eqb (get_or text 15 0) 32) (Some (take 15 text)) None) _ x h (λ front e k.
    let g = guard_ok (eqb (get_or text 15 0) 32) (take 15 text) front e in
    bind_then (bsd_stamp_of front) _ x k (λ s es ks.
    let same = some_is (s, drop 16 text) x ks in
    (cut_at text 15 g.0 ∙ ap (λ (y : BsdStamp × List ℕ). take 15 text ++ 32 ∷ y.1) same, ap bsd_stamp_of g.1 ∙ es ∙ ap (λ (y : BsdStamp × List ℕ). Some y.0) same)))

pub bsd_sound : (text : List ℕ) (parts : BsdParts) → bsd_parts_of text ≡ Some parts → Reads3164 text parts
unfolding bsd_parts_of
bsd_sound text parts h =
    bind_then (pri_at text) _ parts h (λ pri h1 k1.
    bind_then (bsd_stamp_at pri.1) _ parts k1 (λ stamp h2 k2.
    bind_then (split 32 stamp.1) _ parts k2 (λ host h3 k3.
    let g = guard_ok (nat_lt 0 (length host.0)) (record { pri = pri.0; stamp = stamp.0; host = host.0; msg = host.1 }) parts k3 in
    subst (Reads3164 text) g.1 (built pri stamp host h1 h2 h3 g.0))))
  where
    built : (pri : ℕ × List ℕ) (stamp : BsdStamp × List ℕ) (host : List ℕ × List ℕ) → pri_at text ≡ Some pri → bsd_stamp_at pri.1 ≡ Some stamp → split 32 stamp.1 ≡ Some host → nat_lt 0 (length host.0) ≡ true
        → Reads3164 text (record { pri = pri.0; stamp = stamp.0; host = host.0; msg = host.1 })
    built pri stamp host h1 h2 h3 some =
        let s1 = section_sound 62 pri_in text pri (sym (pri_is text) ∙ h1) in
        let s2 = stamp_sound pri.1 stamp h2 in
        let s3 = split_sound 32 stamp.1 host h3 in
        record {
          priority = s1.section;
          stamp = take 15 pri.1;
          whole = s1.whole ∙ ap (up_to s1.section 62) (s2.0 ∙ ap (λ (y : List ℕ). take 15 pri.1 ++ 32 ∷ y) s3.0);
          is_priority = s1.is;
          is_stamp = s2.1;
          some = grind arith;
          one = s3.1;
        }
