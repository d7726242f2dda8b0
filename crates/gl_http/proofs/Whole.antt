-- A head that was read within so many places is a head of at most 64 fields.
use Rattle.std.proofs.Common.{◌≡◌, ℕ, ◌≤◌, List, length, take, drop, subst, ap, arith}
use Rattle.std.proofs.lemmas.List.{length-take, length-map}
use Rattle.httparse.specs.Grammar.{RequestHead}
use Rattle.httparse.specs.Spans.{IsRequestOf, IsRequestAt, header_bytes, name_and_value}
use Rattle.httparse.specs.declared.spans.HeaderSpan.{HeaderSpan}
use Rattle.httparse.specs.declared.spans.RequestSpans.{RequestSpans}
use Rattle.gl_http.specs.Front.{BeginsWith, HasNoHead}

pub begins : (buf : List ℕ) (headers : List HeaderSpan) (r : RequestSpans) (h : RequestHead) → length headers ≤ 64 → IsRequestAt buf headers r h → BeginsWith buf h
begins buf headers r h few at =
    let same = ap length at.fields in
    let left = length-map (take r.headers headers) (header_bytes buf) in
    let right = length-map h.fields name_and_value in
    let taken = length-take r.headers headers in
    (drop r.len buf, at.reads, omega (arith, same, left, right, taken, few))

pub has_head : (buf : List ℕ) (headers : List HeaderSpan) (r : RequestSpans) → IsRequestOf buf headers r → length headers ≤ 64 → (h : RequestHead) × BeginsWith buf h
has_head buf headers r of few = (of.0, begins buf headers r of.0 few of.1)

pub none_contradicts : {A : Type 0} (buf whole : List ℕ) → buf ≡ whole → (h : RequestHead) × BeginsWith buf h → HasNoHead whole → A
none_contradicts buf whole same head none = absurd (none head.0 (subst (λ xs. BeginsWith xs head.0) same head.1))
