-- What is read as an entry has just its bytes, and the bytes of an entry are read as it.
use Rattle.std.proofs.Common.{◌≡◌, ℕ, zero, suc, ◌^◌, ◌-◌, ◌<◌, Bool, true, false, cond, eqb, List, [], ◌∷◌, ◌++◌, length, Option, Some, None, Result, Ok, Err, refl, sym, ap, subst, ◌∙◌, append_assoc, arith}
use Rattle.std.specs.Prelude.{IfOk, IfSome}
use Rattle.std.specs.Int.{w16, w64, to_be_bytes}
use Rattle.std.specs.Str.{IsUtf8}
use Rattle.std.proofs.lemmas.Bool.{eqb-true, eqb-false}
use Rattle.std.proofs.lemmas.List.{append-nil, nil_from_length}
use Rattle.gl_fields.specs.declared.decode.EntryRefusal.{EntryRefusal}
use Rattle.gl_fields.specs.declared.input_kind.InputKind.{InputKind}
use Rattle.gl_fields.specs.declared.input_kind.InputKind.TheVariants.{Raw, Gelf, Syslog}
use Rattle.gl_fields.specs.declared.entry.Origin.{Origin}
use Rattle.gl_fields.specs.declared.entry.Entry.{Entry}
use Rattle.gl_fields.specs.declared.entry.Entry.TheVariants.{Admin, Message}
use Rattle.gl_fields.specs.declared.entry.Message.{Message as Payload}
use Rattle.gl_fields.specs.Entries.{short_text, long_text, kind_sign, front_bytes, entry_bytes}
use Rattle.gl_fields.specs.Bounds.{IsText, IsPayload, IsEntry}
use Rattle.gl_fields.specs.Units.{◌>>=◌, byte_at, number_at, short_text_at, long_text_at, are_any, whole, Answers}
use Rattle.gl_fields.specs.EntryReading.{kind_of, kind_at, received_at, message_at, origin_message_at, command_at, payload_at, origin_payload_at, entry_at, entry_of}
use Rattle.gl_fields.proofs.Taking.{bind_ok, guard_ok, ok_is, IsBytes, all_bytes, Takes, Takes-then, IsWithin, wide16, wide64, byte_takes, byte_again, number_takes, number_again, short_takes, short_again, long_takes, long_again}

text_is : (most : ℕ) (text : List ℕ) → IsWithin 1 most (length text) → IsUtf8 text → IsText most text
text_is most text w utf8 = record { some = omega (arith, w.low); few = w.high; utf8 = utf8 }

within_text : (most : ℕ) (text : List ℕ) → IsText most text → IsWithin 1 most (length text)
within_text most text is = record { low = omega (arith, is.some); high = is.few }

-- kinds

sign_again : (n : ℕ) → IsWithin 0 2 n → kind_sign (kind_of n) ≡ n
sign_again zero w = refl
sign_again (suc zero) w = refl
sign_again (suc (suc zero)) w = refl
sign_again (suc (suc (suc n))) w = absurd (omega (arith, w.high))

kind_takes : (bytes : List ℕ) (kind : InputKind) (rest : List ℕ) → IsBytes bytes → kind_at bytes ≡ Ok (kind, rest) → Takes bytes (kind_sign kind ∷ []) rest
unfolding kind_at
kind_takes bytes kind rest fits e =
    let a = bind_ok (byte_at 0 2 bytes) (λ sign. Ok (kind_of sign.0, sign.1)) (kind, rest) e in
    let sign = byte_takes 0 2 bytes a.0.0 a.0.1 fits a.1 in
    let read : InputKind × List ℕ = (kind_of a.0.0, a.0.1) in
    subst (λ (y : InputKind × List ℕ). Takes bytes (kind_sign y.0 ∷ []) y.1) {x = read} (ok_is read (kind, rest) a.2)
    (record { parts = sign.0.parts ∙ ap (λ (n : ℕ). n ∷ a.0.1) (sym (sign_again a.0.0 sign.1)); rest_fits = sign.0.rest_fits })

kind_again : (kind : InputKind) (rest : List ℕ) → kind_at (kind_sign kind ∷ rest) ≡ Ok (kind, rest)
unfolding kind_at
kind_again Raw rest = rw (byte_again 0 2 0 rest (record { low = omega arith; high = omega arith })) refl
kind_again Gelf rest = rw (byte_again 0 2 1 rest (record { low = omega arith; high = omega arith })) refl
kind_again Syslog rest = rw (byte_again 0 2 2 rest (record { low = omega arith; high = omega arith })) refl

-- messages from their moment on

abbrev received_bytes : Payload → List ℕ
received_bytes m = to_be_bytes w64 m.moment ++ (to_be_bytes w64 m.version ++ long_text m.bytes)

behind_front : (a b c d : List ℕ) → ((a ++ b) ++ c) ++ d ≡ a ++ (b ++ (c ++ d))
behind_front a b c d = simp append_assoc

-- where a message came in, as it is read
record IsFront (input peer : List ℕ) (origin : Option Origin) : Type 0 where
  pub input_is : IsText 64 input
  pub peer_is : IsText 255 peer
  pub origin_is : IfSome origin (λ o. o.port < 2 ^ 16)

received_takes : (input peer : List ℕ) (origin : Option Origin) (bytes : List ℕ) (m : Payload) (rest : List ℕ) → IsFront input peer origin → IsBytes bytes
    → received_at input peer origin bytes ≡ Ok (m, rest) → Takes (front_bytes input peer origin ++ bytes) (entry_bytes (Message m)) rest × IsPayload m
unfolding received_at
received_takes input peer origin bytes m rest is fits e =
    let made : ℕ → ℕ → List ℕ → Payload = λ t v b. record { input = input; peer = peer; origin = origin; moment = t; version = v; bytes = b } in
    let d = bind_ok (number_at w64 0 253402300799999 bytes) (λ moment. number_at w64 0 (2 ^ 64 - 1) moment.1 >>= λ version. long_text_at are_any 1 1048576 version.1 >>= λ payload. Ok (made moment.0 version.0 payload.0, payload.1)) (m, rest) e in
    let f = bind_ok (number_at w64 0 (2 ^ 64 - 1) d.0.1) (λ version. long_text_at are_any 1 1048576 version.1 >>= λ payload. Ok (made d.0.0 version.0 payload.0, payload.1)) (m, rest) d.2 in
    let g = bind_ok (long_text_at are_any 1 1048576 f.0.1) (λ payload. Ok (made d.0.0 f.0.0 payload.0, payload.1)) (m, rest) f.2 in
    let moment = number_takes w64 (2 ^ 64) wide64 0 253402300799999 bytes d.0.0 d.0.1 fits d.1 in
    let version = number_takes w64 (2 ^ 64) wide64 0 (2 ^ 64 - 1) d.0.1 f.0.0 f.0.1 moment.0.rest_fits f.1 in
    let payload = long_takes are_any 1 1048576 f.0.1 g.0.0 g.0.1 version.0.rest_fits g.1 in
    let two = Takes-then d.0.1 (to_be_bytes w64 f.0.0) f.0.1 (long_text g.0.0) g.0.1 version.0 payload.0 in
    let one = Takes-then bytes (to_be_bytes w64 d.0.0) d.0.1 (to_be_bytes w64 f.0.0 ++ long_text g.0.0) g.0.1 moment.0 two in
    let front : List ℕ = front_bytes input peer origin in
    let body : List ℕ = to_be_bytes w64 d.0.0 ++ (to_be_bytes w64 f.0.0 ++ long_text g.0.0) in
    let grouped : front ++ body ≡ entry_bytes (Message (made d.0.0 f.0.0 g.0.0)) = sym (behind_front front (to_be_bytes w64 d.0.0) (to_be_bytes w64 f.0.0) (long_text g.0.0)) in
    let read : Payload × List ℕ = (made d.0.0 f.0.0 g.0.0, g.0.1) in
    subst (λ (y : Payload × List ℕ). Takes (front ++ bytes) (entry_bytes (Message y.0)) y.1 × IsPayload y.0) {x = read} (ok_is read (m, rest) g.2) (
      record {
        parts = ap (λ (l : List ℕ). front ++ l) one.parts ∙ sym (append_assoc front body g.0.1) ∙ ap (λ (l : List ℕ). l ++ g.0.1) grouped;
        rest_fits = one.rest_fits;
      },
      record {
        input = is.input_is;
        peer = is.peer_is;
        origin = is.origin_is;
        moment = moment.1.within.high;
        version = version.1.below;
        some = omega (arith, payload.1.within.low);
        few = payload.1.within.high;
        bytes = all_bytes g.0.0 payload.3;
      },
    )

received_again : (m : Payload) (rest : List ℕ) → IsPayload m → received_at m.input m.peer m.origin (received_bytes m ++ rest) ≡ Ok (m, rest)
unfolding received_at
received_again m rest is =
    let after_version : List ℕ = long_text m.bytes ++ rest in
    let after_moment : List ℕ = to_be_bytes w64 m.version ++ after_version in
    let regrouped : received_bytes m ++ rest ≡ to_be_bytes w64 m.moment ++ after_moment = simp append_assoc in
    ap (λ (l : List ℕ). received_at m.input m.peer m.origin l) regrouped
    ∙ rw (
      number_again w64 (2 ^ 64) wide64 0 253402300799999 m.moment after_moment (record { within = record { low = omega arith; high = is.moment }; below = omega (arith, is.moment) }),
      number_again w64 (2 ^ 64) wide64 0 (2 ^ 64 - 1) m.version after_version (record { within = record { low = omega arith; high = omega (arith, is.version) }; below = is.version }),
      long_again are_any 1 1048576 m.bytes rest (record { within = record { low = omega (arith, is.some); high = is.few }; below = omega (arith, is.few) }) refl,
    ) refl

-- messages of both formats, behind their sign

message_takes : (bytes : List ℕ) (m : Payload) (rest : List ℕ) → IsBytes bytes → message_at bytes ≡ Ok (m, rest) → Takes (2 ∷ bytes) (entry_bytes (Message m)) rest × IsPayload m
unfolding message_at
message_takes bytes m rest fits e =
    let a = bind_ok (short_text_at 64 bytes) (λ input. short_text_at 255 input.1 >>= λ peer. received_at input.0 peer.0 None peer.1) (m, rest) e in
    let b = bind_ok (short_text_at 255 a.0.1) (λ peer. received_at a.0.0 peer.0 None peer.1) (m, rest) a.2 in
    let input = short_takes 64 bytes a.0.0 a.0.1 fits a.1 in
    let peer = short_takes 255 a.0.1 b.0.0 b.0.1 input.0.rest_fits b.1 in
    let is : IsFront a.0.0 b.0.0 None = record { input_is = text_is 64 a.0.0 input.1 input.2; peer_is = text_is 255 b.0.0 peer.1 peer.2; origin_is = tt } in
    let behind = received_takes a.0.0 b.0.0 None b.0.1 m rest is peer.0.rest_fits b.2 in
    let front = Takes-then bytes (short_text a.0.0) a.0.1 (short_text b.0.0) b.0.1 input.0 peer.0 in
    (record { parts = ap (λ (l : List ℕ). 2 ∷ l) front.parts ∙ behind.0.parts; rest_fits = behind.0.rest_fits }, behind.1)

front_parts : (a b c rest : List ℕ) (k : ℕ) → (a ++ ((k ∷ []) ++ (b ++ c))) ++ rest ≡ ((a ++ (k ∷ b)) ++ c) ++ rest
front_parts a b c rest k = simp append_assoc

origin_message_takes : (bytes : List ℕ) (m : Payload) (rest : List ℕ) → IsBytes bytes → origin_message_at bytes ≡ Ok (m, rest) → Takes (3 ∷ bytes) (entry_bytes (Message m)) rest × IsPayload m
unfolding origin_message_at
origin_message_takes bytes m rest fits e =
    let from : InputKind → ℕ → Option Origin = λ k n. Some (record { kind = k; port = n }) in
    let a = bind_ok (short_text_at 64 bytes) (λ input. kind_at input.1 >>= λ kind. short_text_at 255 kind.1 >>= λ peer. number_at w16 0 65535 peer.1 >>= λ port. received_at input.0 peer.0 (from kind.0 port.0) port.1) (m, rest) e in
    let k = bind_ok (kind_at a.0.1) (λ kind. short_text_at 255 kind.1 >>= λ peer. number_at w16 0 65535 peer.1 >>= λ port. received_at a.0.0 peer.0 (from kind.0 port.0) port.1) (m, rest) a.2 in
    let b = bind_ok (short_text_at 255 k.0.1) (λ peer. number_at w16 0 65535 peer.1 >>= λ port. received_at a.0.0 peer.0 (from k.0.0 port.0) port.1) (m, rest) k.2 in
    let n = bind_ok (number_at w16 0 65535 b.0.1) (λ port. received_at a.0.0 b.0.0 (from k.0.0 port.0) port.1) (m, rest) b.2 in
    let input = short_takes 64 bytes a.0.0 a.0.1 fits a.1 in
    let kind = kind_takes a.0.1 k.0.0 k.0.1 input.0.rest_fits k.1 in
    let peer = short_takes 255 k.0.1 b.0.0 b.0.1 kind.rest_fits b.1 in
    let port = number_takes w16 (2 ^ 16) wide16 0 65535 b.0.1 n.0.0 n.0.1 peer.0.rest_fits n.1 in
    let is : IsFront a.0.0 b.0.0 (from k.0.0 n.0.0) = record { input_is = text_is 64 a.0.0 input.1 input.2; peer_is = text_is 255 b.0.0 peer.1 peer.2; origin_is = port.1.below } in
    let behind = received_takes a.0.0 b.0.0 (from k.0.0 n.0.0) n.0.1 m rest is port.0.rest_fits n.2 in
    let three = Takes-then k.0.1 (short_text b.0.0) b.0.1 (to_be_bytes w16 n.0.0) n.0.1 peer.0 port.0 in
    let two = Takes-then a.0.1 (kind_sign k.0.0 ∷ []) k.0.1 (short_text b.0.0 ++ to_be_bytes w16 n.0.0) n.0.1 kind three in
    let front = Takes-then bytes (short_text a.0.0) a.0.1 ((kind_sign k.0.0 ∷ []) ++ (short_text b.0.0 ++ to_be_bytes w16 n.0.0)) n.0.1 input.0 two in
    let grouped = front.parts ∙ front_parts (short_text a.0.0) (short_text b.0.0) (to_be_bytes w16 n.0.0) n.0.1 (kind_sign k.0.0) in
    (record { parts = ap (λ (l : List ℕ). 3 ∷ l) grouped ∙ behind.0.parts; rest_fits = behind.0.rest_fits }, behind.1)

-- entries

command_takes : (bytes : List ℕ) (x : Entry × List ℕ) → IsBytes bytes → command_at bytes ≡ Ok x → Takes (1 ∷ bytes) (entry_bytes x.0) x.1 × IsEntry x.0
unfolding command_at
command_takes bytes x fits e =
    let a = bind_ok (long_text_at are_any 0 4194299 bytes) (λ command. Ok (Admin command.0, command.1)) x e in
    let command = long_takes are_any 0 4194299 bytes a.0.0 a.0.1 fits a.1 in
    let read : Entry × List ℕ = (Admin a.0.0, a.0.1) in
    subst (λ (y : Entry × List ℕ). Takes (1 ∷ bytes) (entry_bytes y.0) y.1 × IsEntry y.0) (ok_is read x a.2) (
      record { parts = ap (λ (l : List ℕ). 1 ∷ l) command.0.parts; rest_fits = command.0.rest_fits },
      record { few = command.1.within.high; bytes = all_bytes a.0.0 command.3 },
    )

payload_takes : (bytes : List ℕ) (x : Entry × List ℕ) → IsBytes bytes → payload_at bytes ≡ Ok x → Takes (2 ∷ bytes) (entry_bytes x.0) x.1 × IsEntry x.0
unfolding payload_at
payload_takes bytes x fits e =
    let a = bind_ok (message_at bytes) (λ m. Ok (Message m.0, m.1)) x e in
    let read : Entry × List ℕ = (Message a.0.0, a.0.1) in
    subst (λ (y : Entry × List ℕ). Takes (2 ∷ bytes) (entry_bytes y.0) y.1 × IsEntry y.0) (ok_is read x a.2) (message_takes bytes a.0.0 a.0.1 fits a.1)

origin_payload_takes : (bytes : List ℕ) (x : Entry × List ℕ) → IsBytes bytes → origin_payload_at bytes ≡ Ok x → Takes (3 ∷ bytes) (entry_bytes x.0) x.1 × IsEntry x.0
unfolding origin_payload_at
origin_payload_takes bytes x fits e =
    let a = bind_ok (origin_message_at bytes) (λ m. Ok (Message m.0, m.1)) x e in
    let read : Entry × List ℕ = (Message a.0.0, a.0.1) in
    subst (λ (y : Entry × List ℕ). Takes (3 ∷ bytes) (entry_bytes y.0) y.1 × IsEntry y.0) (ok_is read x a.2) (origin_message_takes bytes a.0.0 a.0.1 fits a.1)

chosen : (b : Bool) (p q : Result (Entry × List ℕ) ℕ) (x : Entry × List ℕ) → cond b p q ≡ Ok x → (P : Type 0) → (b ≡ true → p ≡ Ok x → P) → (b ≡ false → q ≡ Ok x → P) → P
chosen true p q x e P f g = f refl e
chosen false p q x e P f g = g refl e

entry_takes : (bytes : List ℕ) (x : Entry × List ℕ) → IsBytes bytes → entry_at bytes ≡ Ok x → Takes bytes (entry_bytes x.0) x.1 × IsEntry x.0
unfolding entry_at
entry_takes bytes x fits e =
    let a = bind_ok (byte_at 1 3 bytes) (λ sign. cond (eqb sign.0 1) (command_at sign.1) (cond (eqb sign.0 2) (payload_at sign.1) (origin_payload_at sign.1))) x e in
    let sign = byte_takes 1 3 bytes a.0.0 a.0.1 fits a.1 in
    let P : Type 0 = Takes bytes (entry_bytes x.0) x.1 × IsEntry x.0 in
    let begins : (n : ℕ) → a.0.0 ≡ n → bytes ≡ n ∷ a.0.1 = λ n is. sign.0.parts ∙ ap (λ (k : ℕ). k ∷ a.0.1) is in
    chosen (eqb a.0.0 1) (command_at a.0.1) (cond (eqb a.0.0 2) (payload_at a.0.1) (origin_payload_at a.0.1)) x a.2 P
    (λ is read. rw (begins 1 (eqb-true a.0.0 1 is)) (command_takes a.0.1 x sign.0.rest_fits read))
    (λ n1 more. chosen (eqb a.0.0 2) (payload_at a.0.1) (origin_payload_at a.0.1) x more P
    (λ is read. rw (begins 2 (eqb-true a.0.0 2 is)) (payload_takes a.0.1 x sign.0.rest_fits read))
    (λ n2 read. rw (begins 3 (last a.0.0 sign.1 n1 n2)) (origin_payload_takes a.0.1 x sign.0.rest_fits read)))
  where
    last : (n : ℕ) → IsWithin 1 3 n → eqb n 1 ≡ false → eqb n 2 ≡ false → n ≡ 3
    last n w a b = omega (arith, w.low, w.high, eqb-false n 1 a, eqb-false n 2 b)

-- a message is read behind its front, of either format
abbrev as_entry : Payload × List ℕ → Result (Entry × List ℕ) ℕ
as_entry m = Ok (Message m.0, m.1)

front_again : (input peer : List ℕ) (origin : Option Origin) (more : List ℕ) → IsFront input peer origin → entry_at (front_bytes input peer origin ++ more) ≡ (received_at input peer origin more >>= as_entry)
unfolding entry_at payload_at origin_payload_at message_at origin_message_at
front_again input peer None more is =
    let behind : List ℕ = short_text peer ++ more in
    let regrouped : front_bytes input peer None ++ more ≡ 2 ∷ (short_text input ++ behind) = simp append_assoc in
    ap entry_at regrouped
    ∙ rw (
      byte_again 1 3 2 (short_text input ++ behind) (record { low = omega arith; high = omega arith }),
      short_again 64 input behind (within_text 64 input is.input_is) is.input_is.utf8,
      short_again 255 peer more (within_text 255 peer is.peer_is) is.peer_is.utf8,
    ) refl
front_again input peer (Some origin) more is =
    let behind : List ℕ = to_be_bytes w16 origin.port ++ more in
    let after_kind : List ℕ = short_text peer ++ behind in
    let regrouped : front_bytes input peer (Some origin) ++ more ≡ 3 ∷ (short_text input ++ (kind_sign origin.kind ∷ after_kind)) = simp append_assoc in
    ap entry_at regrouped
    ∙ rw (
      byte_again 1 3 3 (short_text input ++ (kind_sign origin.kind ∷ after_kind)) (record { low = omega arith; high = omega arith }),
      short_again 64 input (kind_sign origin.kind ∷ after_kind) (within_text 64 input is.input_is) is.input_is.utf8,
      kind_again origin.kind after_kind,
      short_again 255 peer behind (within_text 255 peer is.peer_is) is.peer_is.utf8,
      number_again w16 (2 ^ 16) wide16 0 65535 origin.port more (record { within = record { low = omega arith; high = omega (arith, is.origin_is) }; below = is.origin_is }),
    ) refl

command_again : (command rest : List ℕ) → IsEntry (Admin command) → entry_at (entry_bytes (Admin command) ++ rest) ≡ Ok (Admin command, rest)
unfolding entry_at command_at
command_again command rest is =
    rw (
      byte_again 1 3 1 (long_text command ++ rest) (record { low = omega arith; high = omega arith }),
      long_again are_any 0 4194299 command rest (record { within = record { low = omega arith; high = is.few }; below = omega (arith, is.few) }) refl,
    ) refl

entry_again : (entry : Entry) (rest : List ℕ) → IsEntry entry → entry_at (entry_bytes entry ++ rest) ≡ Ok (entry, rest)
entry_again (Admin command) rest is = command_again command rest is
entry_again (Message m) rest is =
    let front : List ℕ = front_bytes m.input m.peer m.origin in
    let regrouped : entry_bytes (Message m) ++ rest ≡ front ++ (received_bytes m ++ rest) =
    ap (λ (l : List ℕ). l ++ rest) (behind_front front (to_be_bytes w64 m.moment) (to_be_bytes w64 m.version) (long_text m.bytes)) ∙ append_assoc front (received_bytes m) rest in
    ap entry_at regrouped
    ∙ front_again m.input m.peer m.origin (received_bytes m ++ rest) (record { input_is = is.input; peer_is = is.peer; origin_is = is.origin })
    ∙ ap (λ (r : Result (Payload × List ℕ) ℕ). r >>= as_entry) (received_again m rest is)

-- the whole bytes

pub whole_is : {X : Type 0} (bytes : List ℕ) (read : Result (X × List ℕ) ℕ) (x : X) → whole bytes read ≡ Ok x → read ≡ Ok (x, [])
whole_is bytes (Ok y) x e =
    let g = guard_ok (eqb (length y.1) 0) (length bytes - length y.1) y.0 x e in
    let none : y.1 ≡ [] = nil_from_length y.1 (eqb-true (length y.1) 0 g.0) in
    λ i. Ok (g.1 i, none i)
whole_is bytes (Err left) x e = absurd cc

pub entry_found : (bytes : List ℕ) (entry : Entry) → IsBytes bytes → entry_of bytes ≡ Ok entry → IsEntry entry × (bytes ≡ entry_bytes entry)
unfolding entry_of
entry_found bytes entry fits e =
    let read = entry_takes bytes (entry, []) fits (whole_is bytes (entry_at bytes) entry e) in
    (read.1, read.0.parts ∙ append-nil (entry_bytes entry))

pub entry_only : (bytes : List ℕ) (entry : Entry) → IsEntry entry → bytes ≡ entry_bytes entry → entry_of bytes ≡ Ok entry
unfolding entry_of
entry_only bytes entry is e =
    let read : entry_at bytes ≡ Ok (entry, []) = ap entry_at (e ∙ sym (append-nil (entry_bytes entry))) ∙ entry_again entry [] is in
    rw read refl

-- what was answered

pub found_by : (bytes : List ℕ) (r : Result Entry EntryRefusal) → IsBytes bytes → Answers r (entry_of bytes) → IfOk r (λ e. IsEntry e × (bytes ≡ entry_bytes e))
found_by bytes (Ok entry) fits e = entry_found bytes entry fits e
found_by bytes (Err cause) fits e = tt

pub only_by : (bytes : List ℕ) (r : Result Entry EntryRefusal) (entry : Entry) → IsEntry entry → bytes ≡ entry_bytes entry → Answers r (entry_of bytes) → Answers r (Ok entry)
only_by bytes r entry is e answers = subst (λ (read : Result Entry ℕ). Answers r read) (entry_only bytes entry is e) answers
