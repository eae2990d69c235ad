-- What becomes of a file that a command names: what an answer's status tells of the refusal.
use Rattle.std.proofs.Common.{◌≡◌, ◌↔◌, ◌⊎◌, ℕ, List, Option, None, Some, Result, Ok, Err, IfSome, IfErr, IsErrOf, inl, inr, refl, ap, sym, subst, ◌∙◌, arith}
use Rattle.fx_base.specs.Faults.{Rose}
use Rattle.fx_base.specs.Told.{Told, Holds}
use Rattle.fx_base.specs.declared.refusal.Refusal.{Refusal}
use Rattle.fx_base.specs.declared.settings.Written.{Written}
use Rattle.fx_base.specs.declared.refusal.Refusal.TheVariants.{Usage, File, Syntax, Name, IllTyped, Limit, Memory}
use Rattle.rv_model.specs.declared.image.Image.{Image}
use Rattle.effects_top.specs.declared.outcome.Outcome.{Outcome}
use Rattle.effects_top.specs.Words.{Numbers, numbers_of}
use Rattle.effects_top.specs.Checked.{IsRead, IsCompileBreach, IsFileRefusal}
use Rattle.image_build.specs.Building.{IsBuildRefusal}
use Rattle.effects_top.specs.Source.{source_limit}
use Rattle.effects_top.specs.Expression.{Expression}
use Rattle.effects_top.specs.Form.{IsFormOf, IsOfForm}
use Rattle.effects_top.specs.Answers.{refusal_status}
use Rattle.effects_top.specs.Outcome.{IsRefusedWith, Refused}
use Rattle.effects_top.specs.Headline.{IsImageOf, Compiles}

-- 68 is the status of a file that can't be read
file_by : (refusal : Refusal) → refusal_status refusal ≡ 68 → refusal ≡ File
file_by Usage s = absurd (omega (arith, s))
file_by File s = refl
file_by (Syntax place) s = absurd (omega (arith, s))
file_by (Name place) s = absurd (omega (arith, s))
file_by (IllTyped place) s = absurd (omega (arith, s))
file_by (Limit kind found bound) s = absurd (omega (arith, s))
file_by Memory s = absurd (omega (arith, s))

-- and 64 that of no file
no_usage : (refusal : Refusal) → IsFileRefusal refusal → refusal_status refusal ≡ 64 → ⊥
no_usage Usage is s = is
no_usage File is s = omega (arith, s)
no_usage (Syntax place) is s = omega (arith, s)
no_usage (Name place) is s = omega (arith, s)
no_usage (IllTyped place) is s = omega (arith, s)
no_usage (Limit kind found bound) is s = omega (arith, s)
no_usage Memory is s = omega (arith, s)

abbrev error : (T : Type 0) → Refusal → Result T Refusal
error T refusal = Err refusal

same_error : (T : Type 0) (r s : Refusal) → error T r ≡ error T s → r ≡ s
same_error T r s e = cc

-- the statuses of a file that was refused
module _ (o : Outcome) (refusal : Refusal) (i : Option Image) (err err' : Option (List ℕ)) (e e' : ℕ)
    (refused : Refused o refusal i err err' e e') where
  pub usage_is_not : IsFileRefusal refusal → IsRefusedWith o 64 → ⊥
  usage_is_not is with_ = no_usage refusal is (sym refused.status ∙ with_.status)

  pub file_rose : (T : Type 0) (faults faults' : ℕ) → (IsErrOf (error T refusal) File → Rose faults faults') → IsRefusedWith o 68 → Rose faults faults'
  file_rose T faults faults' file with_ = file (ap (error T) (file_by refusal (sym refused.status ∙ with_.status)))

  pub limit_told : (T P : Type 0) → IsErrOf (error T refusal) source_limit ↔ P → P → IsRefusedWith o 67
  limit_told T P limit holds =
      record { status = refused.status ∙ ap refusal_status (same_error T refusal source_limit (limit.1 holds)); written = refused.written }

-- the file was refused
pub file_refused : (o : Outcome) (refusal : Refusal) (name : List ℕ) (numbers : Numbers) (told : Told) (opened : Option (List ℕ)) (taken faults faults' : ℕ) (err err' : Option (List ℕ)) (e e' : ℕ)
    → Refused o refusal None err err' e e' → IsFileRefusal refusal → (opened ≡ None) ⊎ (opened ≡ Some name)
    → (IsErrOf (error Image refusal) File → Rose faults faults')
    → IsErrOf (error Image refusal) source_limit ↔ ((opened ≡ Some name) × (taken ≡ 1048577))
    → Compiles o name numbers told opened taken faults faults'
file_refused o refusal name numbers told opened taken faults faults' err err' e e' refused is open_ file limit =
    record {
      opened = open_;
      read = λ bytes holds. no_image (λ (i : Image). IsRead bytes);
      stands = λ bytes holds form. no_image (IsImageOf name bytes);
      settings = no_image (λ (i : Image). numbers_of i.settings ≡ numbers);
      usage = usage_is_not o refusal None err err' e e' refused is;
      file = file_rose o refusal None err err' e e' refused Image faults faults' file;
      limited = λ named took. limit_told o refusal None err err' e e' refused Image _ limit (named, took);
    }
  where
    no_image : (P : Image → Type 0) → IfSome o.image P
    no_image P = by o.image refused.image
      where
        by : (i : Option Image) → i ≡ None → IfSome i P
        by None is_none = tt
        by (Some i) is_none = absurd (cc)

abbrev ok : Image → Result Image Refusal
ok image = Ok image

-- the file's program was run
pub file_ran : (o : Outcome) (image : Image) (w : Written) (name : List ℕ) (numbers : Numbers) (told : Told) (opened : Option (List ℕ)) (taken faults faults' : ℕ)
    → o.image ≡ Some image → o.written ≡ Some w → (opened ≡ None) ⊎ (opened ≡ Some name)
    → ((bytes : List ℕ) → told ≡ Holds bytes → IsRead bytes)
    → ((bytes : List ℕ) → told ≡ Holds bytes → IsOfForm bytes → IsImageOf name bytes image)
    → numbers_of image.settings ≡ numbers
    → IsErrOf (ok image) source_limit ↔ ((opened ≡ Some name) × (taken ≡ 1048577))
    → Compiles o name numbers told opened taken faults faults'
file_ran o image w name numbers told opened taken faults faults' has wrote open_ read stands settings limit =
    record {
      opened = open_;
      read = λ bytes holds. here (λ (i : Image). IsRead bytes) (read bytes holds);
      stands = λ bytes holds form. here (IsImageOf name bytes) (stands bytes holds form);
      settings = here (λ (i : Image). numbers_of i.settings ≡ numbers) settings;
      usage = none 64;
      file = λ with_. absurd (none 68 with_);
      limited = λ named took. let e = limit.1 (named, took) in absurd (cc);
    }
  where
    here : (P : Image → Type 0) → P image → IfSome o.image P
    here P holds = subst (λ i. IfSome i P) (sym has) holds

    none : (number : ℕ) → IsRefusedWith o number → ⊥
    none number with_ = let e = sym wrote ∙ with_.written in cc

-- a program that isn't of the form may not be built
pub compile_breach : (bytes : List ℕ) (r : Result Image Refusal) → IsRead bytes
    → IfErr r (λ refusal. (refusal ≡ Memory) ⊎ (IsBuildRefusal refusal × ((e : Expression) → IsFormOf bytes e → ⊥))) → IfErr r (IsCompileBreach bytes)
compile_breach bytes (Ok image) accepted refused = tt
compile_breach bytes (Err refusal) accepted (inl is) = inl (rw is tt)
compile_breach bytes (Err refusal) accepted (inr why) = inr (why.0, record { read = accepted; other_form = why.1 })
