-- The grammar of RFC 5424 section 6, by cases on whole texts, with the parts that each section says.
use Rattle.std.specs.Prelude.{◌≡◌, ℕ, Bool, true, false, not, ◌&&◌, ◌==◌, List, [], ◌∷◌, ◌++◌, length, nat_lt, nat_le, Option, Some, codes}
use Rattle.std.specs.List.{list_all}
use Rattle.gl_syslogtext.specs.declared.parts.Element.{Element}
use Rattle.gl_syslogtext.specs.declared.parts.Parts.{Parts}
use Rattle.gl_syslogtext.specs.Sections.{pri_in, stamp_of, name_of}
use Rattle.gl_syslogtext.specs.Data.{is_sd_byte, value_len, unescaped, message_of}
use Rattle.gl_syslogtext.specs.MessageReading.{are_distinct, ids_of}

abbrev pub has_none : ℕ → List ℕ → Bool
has_none c text = list_all (λ b. not (b == c)) text

-- a section of the header, in which the byte that ends it doesn't stand, says this
pub record IsSection {A : Type 0} (c : ℕ) (of : List ℕ → Option A) (text : List ℕ) (says : A) : Type 0 where
  pub none : has_none c text ≡ true
  pub is : of text ≡ Some says

-- one behind the other
abbrev pub AreMany : {X : Type 0} → (List ℕ → X → Type 0) → List ℕ → List X → Type 0
AreMany Is text [] = text ≡ []
AreMany Is text (x ∷ xs) = (one : List ℕ) × (more : List ℕ) × (text ≡ one ++ more) × Is one x × AreMany Is more xs

-- SD-NAME: 1 to 32 printable bytes, none of them `=`, `]` or `"` (section 6.3.2)
abbrev pub is_sd_name : List ℕ → Bool
is_sd_name name = nat_lt 0 (length name) && nat_le (length name) 32 && list_all is_sd_byte name

-- What spells a value: the first quote that no backslash escapes stands behind all of it, and no such `]` stands in it (section 6.3.3).
pub record IsSpelled (spelled value : List ℕ) : Type 0 where
  pub ends : value_len false (spelled ++ 34 ∷ []) ≡ Some (length spelled)
  pub spells : unescaped false spelled ≡ value

-- SD-PARAM behind its space: a name, `="`, what spells the value, and `"`
abbrev pub IsParam : List ℕ → List ℕ × List ℕ → Type 0
IsParam text (name, value) = (spelled : List ℕ) × (text ≡ 32 ∷ (name ++ 61 ∷ 34 ∷ (spelled ++ 34 ∷ []))) × (is_sd_name name ≡ true) × IsSpelled spelled value

-- SD-ELEMENT: `[`, an id, parameters and `]`
pub record IsElement (text : List ℕ) (element : Element) : Type 0 where
  pub params : List ℕ
  pub whole : text ≡ 91 ∷ (element.id ++ (params ++ 93 ∷ []))
  pub id : is_sd_name element.id ≡ true
  pub each : AreMany IsParam params element.params

-- STRUCTURED-DATA: `-`, or elements (section 6.3)
abbrev pub IsData : List ℕ → List Element → Type 0
IsData text [] = text ≡ 45 ∷ []
IsData text (e ∷ es) = AreMany IsElement text (e ∷ es)

abbrev pub up_to : List ℕ → ℕ → List ℕ → List ℕ
up_to section c rest = section ++ c ∷ rest

-- a message of version 1, with these parts
pub record Reads5424 (text : List ℕ) (parts : Parts) : Type 0 where
  pub priority : List ℕ
  pub stamp : List ℕ
  pub host : List ℕ
  pub app : List ℕ
  pub proc_id : List ℕ
  pub msg_id : List ℕ
  pub elements : List ℕ
  pub message : List ℕ
  pub whole : text ≡ up_to priority 62 (up_to (codes "1") 32 (up_to stamp 32 (up_to host 32 (up_to app 32 (up_to proc_id 32 (up_to msg_id 32 (elements ++ message)))))))
  pub is_priority : IsSection 62 pri_in priority parts.pri
  pub is_stamp : IsSection 32 stamp_of stamp parts.stamp
  pub is_host : IsSection 32 (name_of 255) host parts.host
  pub is_app : IsSection 32 (name_of 48) app parts.app
  pub is_proc_id : IsSection 32 (name_of 128) proc_id parts.proc_id
  pub is_msg_id : IsSection 32 (name_of 32) msg_id parts.msg_id
  pub is_data : IsData elements parts.elements
  pub once : are_distinct (ids_of parts.elements) ≡ true
  pub is_message : message_of message ≡ Some (parts.bom, parts.msg)
