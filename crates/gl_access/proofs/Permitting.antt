-- What a request may see, said of each id.
use Rattle.std.proofs.Common.{◌≡◌, ◌↔◌, ℕ, ◌<◌, Bool, true, false, ◌&&◌, ◌||◌, cond, List, get_or, map, refl, sym, subst, ap, ◌∙◌, Option, Some, None, option_map}
use Rattle.std.specs.List.{list_all, All}
use Rattle.gl_fields.specs.Fields.{Rises}
use Rattle.gl_fields.proofs.Rising.{Rises-filter}
use Rattle.gl_streams.specs.Ids.{has_id}
use Rattle.gl_streams.specs.declared.stream.Stream.{Stream}
use Rattle.gl_settings.specs.declared.user.User.{User}
use Rattle.gl_settings.specs.Settings.{Settings, has_stream}
use Rattle.gl_access.specs.declared.access.Denial.{Denial}
use Rattle.gl_access.specs.declared.access.Denial.TheVariants.{StreamNotPermitted}
use Rattle.gl_access.specs.declared.access.Doing.TheVariants.{Search}
use Rattle.gl_access.specs.Permission.{ids_seen, judged_user, may_see}
use Rattle.gl_access.proofs.Seeing.{filter_has, mapped_has, once, filter_all, each_there, passing, both_there, rises_mapped}

-- the ids of the streams that are there
abbrev ids_there : Settings → List ℕ
ids_there settings = map (λ (stream : Stream). stream.id) settings.streams

there : (settings : Settings) (id : ℕ) → has_id id (ids_there settings) ≡ has_stream settings id
there settings id = mapped_has (λ (stream : Stream). stream.id) id settings.streams

pub seen : (settings : Settings) (user : User) (id : ℕ) → has_id id (ids_seen settings user) ≡ may_see settings user id
seen settings user id =
    filter_has id (may_see settings user) (ids_there settings)
    ∙ ap (λ b. may_see settings user id && b) (there settings id)
    ∙ once (has_stream settings id) (user.admin || has_id id user.streams)

told : (may : Bool) (denial : Denial) → (may ≡ true) ↔ (cond may None (Some denial) ≡ None)
told true denial = (λ h. refl, λ h. refl)
told false denial = (λ h. cc h, λ h. cc h)

-- what a caller sees, and what he is told of each id
pub seen_by : (settings : Settings) (caller : Option User) (ids : List ℕ) (id : ℕ) → option_map (ids_seen settings) caller ≡ Some ids
    → (has_id id ids ≡ true) ↔ (judged_user settings (Search id) caller ≡ None)
seen_by settings None ids id h = cc h
seen_by settings (Some user) ids id h =
    let same : ids_seen settings user ≡ ids = cc h in
    subst (λ (l : List ℕ). (has_id id l ≡ true) ↔ (judged_user settings (Search id) (Some user) ≡ None)) same
    (subst (λ (b : Bool). (b ≡ true) ↔ (judged_user settings (Search id) (Some user) ≡ None)) (sym (seen settings user id))
    (told (may_see settings user id) StreamNotPermitted))

shown : (admin is has : Bool) → admin ≡ true → is ≡ true → (is && (admin || has)) ≡ true
shown true true has h k = refl
shown false is has h k = cc h
shown true false has h k = cc k

each_seen : (settings : Settings) (user : User) → user.admin ≡ true → All (λ id. may_see settings user id ≡ true) (ids_there settings)
each_seen settings user admin k d lt =
    let id : ℕ = get_or (ids_there settings) k d in
    shown user.admin (has_stream settings id) (has_id id user.streams) admin
    (sym (there settings id) ∙ each_there (ids_there settings) k d lt)

pub all_seen : (settings : Settings) (user : User) → user.admin ≡ true → ids_seen settings user ≡ map (λ (stream : Stream). stream.id) settings.streams
all_seen settings user admin = filter_all (may_see settings user) (ids_there settings) (each_seen settings user admin)

listed : (admin is has : Bool) → admin ≡ false → (is && (admin || has)) ≡ (is && has)
listed false is has h = refl
listed true is has h = cc h

pub list_seen : (settings : Settings) (user : User) (id : ℕ) → user.admin ≡ false → list_all (has_stream settings) user.streams ≡ true
    → has_id id (ids_seen settings user) ≡ has_id id user.streams
list_seen settings user id admin all =
    seen settings user id
    ∙ listed user.admin (has_stream settings id) (has_id id user.streams) admin
    ∙ both_there (has_stream settings id) (has_id id user.streams) (passing (has_stream settings) id user.streams all)

pub seen_rise : (settings : Settings) (user : User) → Rises (λ (a b : Stream). a.id < b.id) settings.streams → Rises (λ (a b : ℕ). a < b) (ids_seen settings user)
seen_rise settings user rises =
    Rises-filter (λ (a b : ℕ). a < b) (may_see settings user) (ids_there settings) (rises_mapped (λ (stream : Stream). stream.id) settings.streams rises)
