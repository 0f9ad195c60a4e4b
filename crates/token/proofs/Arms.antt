-- A match on a token, against a definition: the compiler tests some arms' numbers one by one, and the others as runs of numbers. One computed test over the arms and the runs says that the definition has each arm's answer there. Assumes nothing.
use Rattle.std.specs.Prelude.{None, Some}
use Prim.Native.Nat.{ℕ, zero, suc, ◌+◌, ◌-◌, ◌≤◌, ◌<◌}
use native.Mathlib.Omega.{arith}
use mathlib.Core.Bool.{Bool, true, false}
use mathlib.Core.Path.{◌≡◌, refl, ap}
use mathlib.Core.Logic.{◌⊎◌, inl, inr, ⊎_elim}
use mathlib.Core.List.{List, [], ◌∷◌}
use lib.Dec.{T, eqb, eqb→eq}
use lib.ListN.{get_or}
use borrow.Author.Tests.{eqb-true}
use types.Run.{OneOf}
use Rattle.basis.specs.Pick.{both, either, isnt}
use Rattle.basis.proofs.Bounds.{split}
use Rattle.basis.proofs.Cases.{true_left, true_right, not_both}
use Rattle.token.specs.Tokens.{among_tokens}
use Rattle.token.specs.Lookups.{Lookup}

-- numbers that are tested one by one, and their answer
pub record Arm (A : Type 0) : Type 0 where
  pub keys : List ℕ
  pub answer : A

-- a run of numbers, `to` not among them, and its answer
pub record Run (A : Type 0) : Type 0 where
  pub from : ℕ
  pub to : ℕ
  pub answer : A

abbrev pub arm : {A : Type 0} → List ℕ → A → Arm A
arm ks a = record { keys = ks; answer = a }

abbrev pub run : {A : Type 0} → ℕ → ℕ → A → Run A
run l u a = record { from = l; to = u; answer = a }

-- what is known past the arms: the number is none of theirs
abbrev pub Past : {A : Type 0} → Type 0 → List (Arm A) → ℕ → Type 0
Past N [] t = N
Past N (a ∷ as') t = Past (N × (OneOf a.keys t → ⊥)) as' t

-- ---- answers that a computed test can tell apart
pub record Answers : Type 1 where
  pub of : Type 0
  pub none : of
  pub same : of → of → Bool
  pub sound : (a b : of) → T (same a b) → a ≡ b

abbrev pub numbers : Answers
numbers = record { of = ℕ; none = 0; same = eqb; sound = eqb→eq }

abbrev same_bool : Bool → Bool → Bool
same_bool true b = b
same_bool false b = isnt b

pub same_bool_lem : (a b : Bool) → T (same_bool a b) → a ≡ b
same_bool_lem true true t = refl
same_bool_lem true false t = absurd t
same_bool_lem false true t = absurd t
same_bool_lem false false t = refl

abbrev pub tests : Answers
tests = record { of = Bool; none = false; same = same_bool; sound = same_bool_lem }

abbrev pub same_lookup : Lookup → Lookup → Bool
same_lookup (Some t) (Some u) = eqb t u
same_lookup (Some t) None = false
same_lookup None (Some u) = false
same_lookup None None = true

pub same_lookup_lem : (a b : Lookup) → T (same_lookup a b) → a ≡ b
same_lookup_lem (Some t) (Some u) h = ap Some (eqb→eq t u h)
same_lookup_lem (Some t) None h = absurd h
same_lookup_lem None (Some u) h = absurd h
same_lookup_lem None None h = refl

abbrev pub lookups : Answers
lookups = record { of = Lookup; none = None; same = same_lookup; sound = same_lookup_lem }

-- ---- a number among the keys
among_one : (ks : List ℕ) (t : ℕ) → among_tokens ks t ≡ true → OneOf ks t
unfolding among_tokens
among_one [] t e = not_both e refl
among_one (k ∷ []) t e = go (eqb t k) refl e
  where
    go : (x : Bool) → eqb t k ≡ x → either x false ≡ true → t ≡ k
    go true p z = eqb-true t k p
    go false p z = not_both z refl
among_one (k ∷ (j ∷ ks)) t e = go (eqb t k) refl e (among_one (j ∷ ks) t)
  where
    go : (x : Bool) → eqb t k ≡ x → either x (among_tokens (j ∷ ks) t) ≡ true → (among_tokens (j ∷ ks) t ≡ true → OneOf (j ∷ ks) t) → (t ≡ k) ⊎ OneOf (j ∷ ks) t
    go true p z h = inl (eqb-true t k p)
    go false p z h = inr (h z)

module _ (K : Answers) (g : ℕ → K.of) where
  -- ---- the test
  abbrev pub at_keys : List ℕ → K.of → Bool
  at_keys [] a = true
  at_keys (k ∷ ks) a = both (K.same a (g k)) (at_keys ks a)

  abbrev pub at_arms : List (Arm K.of) → Bool
  at_arms [] = true
  at_arms (a ∷ as') = both (at_keys a.keys a.answer) (at_arms as')

  abbrev pub keyed : List (Arm K.of) → ℕ → Bool
  keyed [] t = false
  keyed (a ∷ as') t = either (among_tokens a.keys t) (keyed as' t)

  abbrev pub at_run : List (Arm K.of) → ℕ → ℕ → K.of → Bool
  at_run as' l zero a = true
  at_run as' l (suc n) a = both (either (keyed as' l) (K.same a (g l))) (at_run as' (suc l) n a)

  abbrev pub at_runs : List (Arm K.of) → List (Run K.of) → Bool
  at_runs as' [] = true
  at_runs as' (r ∷ rs) = both (at_run as' r.from (r.to - r.from) r.answer) (at_runs as' rs)

  -- ---- what it shows
  key_is : (ks : List ℕ) (a : K.of) → T (at_keys ks a) → (t : ℕ) → OneOf ks t → a ≡ g t
  key_is [] a h t o = absurd o
  key_is (k ∷ []) a h t o = rw o (K.sound a (g k) (true_left (K.same a (g k)) true h))
  key_is (k ∷ (j ∷ ks)) a h t (inl e) = rw e (K.sound a (g k) (true_left (K.same a (g k)) (at_keys (j ∷ ks) a) h))
  key_is (k ∷ (j ∷ ks)) a h t (inr o) = key_is (j ∷ ks) a (true_right (K.same a (g k)) (at_keys (j ∷ ks) a) h) t o

  -- what the k-th arm knows decides the answer
  abbrev pub OnArm : List (Arm K.of) → Type 0
  OnArm as' = (k t : ℕ) → OneOf (get_or as' k (arm [] K.none)).keys t → (get_or as' k (arm [] K.none)).answer ≡ g t

  pub arm_is : (as' : List (Arm K.of)) → T (at_arms as') → OnArm as'
  arm_is [] h k t o = absurd o
  arm_is (a ∷ as') h zero t o = key_is a.keys a.answer (true_left (at_keys a.keys a.answer) (at_arms as') h) t o
  arm_is (a ∷ as') h (suc k) t o = arm_is as' (true_right (at_keys a.keys a.answer) (at_arms as') h) k t o

  past_keys : {N : Type 0} (as' : List (Arm K.of)) (t : ℕ) → Past N as' t → N × (keyed as' t ≡ false)
  past_keys [] t n = (n, refl)
  past_keys {N} (a ∷ as') t p =
      let r = past_keys {N = N × (OneOf a.keys t → ⊥)} as' t p in
      (r.0.0, go (among_tokens a.keys t) refl r.0.1 r.1)
    where
      go : (x : Bool) → among_tokens a.keys t ≡ x → (OneOf a.keys t → ⊥) → keyed as' t ≡ false → either x (keyed as' t) ≡ false
      go true e n k = absurd (n (among_one a.keys t e))
      go false e n k = k

  in_run : (as' : List (Arm K.of)) (l n : ℕ) (a : K.of) → T (at_run as' l n a) → (t : ℕ) → keyed as' t ≡ false → l ≤ t → t < l + n → a ≡ g t
  in_run as' l zero a h t k f u = absurd (omega arith)
  in_run as' l (suc n) a h t k f u =
      ⊎_elim
      (λ b.
      let e : l ≡ t = omega arith in
      let w : T (either (keyed as' l) (K.same a (g l))) = true_left (either (keyed as' l) (K.same a (g l))) (at_run as' (suc l) n a) h in
      K.sound a (g t) (rw (e, k) at w)
      )
      (λ b. in_run as' (suc l) n a (true_right (either (keyed as' l) (K.same a (g l))) (at_run as' (suc l) n a) h) t k b (omega arith))
      (split t (suc l))

  -- what the k-th run knows, past the arms
  abbrev pub OnRun : List (Arm K.of) → List (Run K.of) → Type 0
  OnRun as' rs =
      (k t : ℕ) → Past (Prim.Unit {0}) as' t → (get_or rs k (run 0 0 K.none)).from ≤ t → t < (get_or rs k (run 0 0 K.none)).to → (get_or rs k (run 0 0 K.none)).answer ≡ g t

  pub run_is : (as' : List (Arm K.of)) (rs : List (Run K.of)) → T (at_runs as' rs) → OnRun as' rs
  run_is as' [] h k t p f u = absurd (omega arith)
  run_is as' (r ∷ rs) h zero t p f u =
      in_run as' r.from (r.to - r.from) r.answer (true_left (at_run as' r.from (r.to - r.from) r.answer) (at_runs as' rs) h) t (past_keys as' t p).1 f (omega arith)
  run_is as' (r ∷ rs) h (suc k) t p f u =
      run_is as' rs (true_right (at_run as' r.from (r.to - r.from) r.answer) (at_runs as' rs) h) k t p f u
