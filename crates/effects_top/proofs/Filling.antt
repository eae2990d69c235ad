-- A buffer that is filled from a file piece by piece.
use Rattle.std.proofs.Common.{◌≡◌, ℕ, ◌+◌, ◌≤◌, ◌<◌, List, ◌++◌, take, drop, length, ap, subst, sym, ◌∙◌, Result, Ok, Err, IfOk, arith}
use Rattle.std.proofs.Math.Seq.{take-add, take-append-add}
use Rattle.std.proofs.lemmas.List.{length-take-le, take-append-le}
use borrow.Rule.Slice.PartMut.{put_mid, post_of}
use Rattle.fx_base.specs.Told.{Told, Holds, GivesNext, Reads}
use Rattle.fx_base.specs.declared.outside.Failed.{Failed}
use Rattle.effects_top.specs.Source.{HasFront}

-- the next piece of the file is written after what stands in front
pub front_grows : (file buf part : List ℕ) (taken k n : ℕ) → taken ≤ length buf → n ≤ length part
    → take taken buf ≡ take taken file → take n part ≡ take n (drop taken file)
    → take (taken + n) (put_mid taken k buf part) ≡ take (taken + n) file
front_grows file buf part taken k n room enough front next =
    let written : List ℕ = part ++ post_of taken k buf in
    let cut : take (taken + n) (take taken buf ++ written) ≡ take taken buf ++ take n written =
    subst (λ (m : ℕ). take (m + n) (take taken buf ++ written) ≡ take taken buf ++ take n written) (length-take-le taken buf room) (take-append-add (take taken buf) written n) in
    cut
    ∙ ap (λ (l : List ℕ). take taken buf ++ l) (take-append-le n part (post_of taken k buf) enough ∙ next)
    ∙ ap (λ (l : List ℕ). l ++ take n (drop taken file)) front
    ∙ sym (take-add taken n file)

-- after a read behind the front, the front is longer by the answer
pub front_after : (file buf before part : List ℕ) (taken k : ℕ) (told : Told) (answer : Result ℕ Failed) → taken ≤ length buf → length part ≡ length before
    → HasFront file taken buf → told ≡ Holds file → Reads told taken before part answer → IfOk answer (λ n. HasFront file (taken + n) (put_mid taken k buf part))
front_after file buf before part taken k told (Ok n) room same front holds reads =
    let given : GivesNext file taken n before part = reads.gives file holds in
    let within : n ≤ length before = reads.within in
    record {
      front = front_grows file buf part taken k n room (omega arith) front.front given.next;
      within = given.left;
    }
front_after file buf before part taken k told (Err e) room same front holds reads = tt

-- an answer of 0 bytes comes at the end alone
pub end_after : (file before part : List ℕ) (taken : ℕ) (told : Told) (answer : Result ℕ Failed) → 0 < length before → told ≡ Holds file
    → Reads told taken before part answer → IfOk answer (λ n. n ≡ 0 → taken ≡ length file)
end_after file before part taken told (Ok n) some holds reads = let given : GivesNext file taken n before part = reads.gives file holds in (given.ends some).0
end_after file before part taken told (Err e) some holds reads = tt
