-- An extractor of a command, and the causes against one.
use Rattle.std.proofs.Common.{◌≡◌, Option, Some, None, Ok, Err, refl, sym, ap, ◌∙◌}
use Rattle.std.specs.Option.{option_or}
use Rattle.gl_extract.specs.declared.parts.ExtractorParts.{ExtractorParts}
use Rattle.gl_extract.specs.declared.extractor.ExtractRefusal.{ExtractRefusal}
use Rattle.gl_extract.specs.Refusals.{refusal_of, accepted, unless}
use Rattle.gl_grok.specs.Tables.{Table}
use Rattle.gl_settings.specs.declared.refusal.Text.TheVariants.{Extract}
use Rattle.gl_settings.specs.declared.refusal.ConfigRefusal.{ConfigRefusal}
use Rattle.gl_settings.specs.declared.refusal.ConfigRefusal.TheVariants.{BadText}
use Rattle.gl_settings.specs.Limits.{Refuses}
use Rattle.gl_config.specs.Applying.{lower, kind_cause, extractor_cause}
use Rattle.gl_config.proofs.Refusing.{refuses_later, none_both}

refused : (o : Option ExtractRefusal) (p : ExtractorParts) (r : ExtractRefusal) → Err r ≡ unless o p → o ≡ Some r
refused None p r e = absurd cc
refused (Some s) p r e = cc

taken : (o : Option ExtractRefusal) (p made : ExtractorParts) → Ok made ≡ unless o p → (o ≡ None) × (made ≡ p)
taken None p made e = (refl, cc)
taken (Some s) p made e = absurd cc

pub extractor_refused : (groks : Table) (p q : ExtractorParts) (r : ExtractRefusal) → q ≡ p → Err r ≡ accepted q → extractor_cause groks p ≡ Some (BadText (Extract r))
extractor_refused groks p q r same e =
    ap (λ (o : Option ExtractRefusal). option_or (lower Extract o) (kind_cause groks p.kind)) (sym (ap refusal_of same) ∙ refused (refusal_of q) q r e)

not_refused : (p q made : ExtractorParts) → q ≡ p → Ok made ≡ accepted q → lower Extract (refusal_of p) ≡ None
not_refused p q made same e = ap (lower Extract) (sym (ap refusal_of same) ∙ (taken (refusal_of q) q made e).0)

pub kind_refused : (groks : Table) (p q made : ExtractorParts) (e : ConfigRefusal) → q ≡ p → Ok made ≡ accepted q → Refuses (kind_cause groks p.kind) e → Refuses (extractor_cause groks p) e
kind_refused groks p q made e same is h = refuses_later (lower Extract (refusal_of p)) (kind_cause groks p.kind) e (not_refused p q made same is) h

pub extractor_made : (groks : Table) (p q made : ExtractorParts) → q ≡ p → Ok made ≡ accepted q → kind_cause groks p.kind ≡ None → (extractor_cause groks p ≡ None) × (made ≡ p)
extractor_made groks p q made same is none =
    (none_both (lower Extract (refusal_of p)) (kind_cause groks p.kind) (not_refused p q made same is) none, (taken (refusal_of q) q made is).1 ∙ same)
