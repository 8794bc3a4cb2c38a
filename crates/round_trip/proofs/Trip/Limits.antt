-- The limit and passes of a block's current segment, which a reader keeps in its state, in closed form from the block's passes so far; and
-- that segments open exactly where the book says.
use mathlib.Core.Path.{◌≡◌, refl, sym, ap, ◌∙◌}
use mathlib.Core.Logic.{◌≢◌}
use mathlib.Core.Bool.{Bool, true, false, cond, ◌&&◌, ◌||◌, not}
use Prim.Native.Nat.{ℕ, ◌+◌, ◌-◌, ◌%◌, ◌≤◌, ◌<◌}
use native.Mathlib.Nat.{sub-zero, le_trans, le_of_eq}
use native.Mathlib.Omega.{arith}
use lib.Dec.{leb, eqb}
use borrow.Author.Tests.{eq-eqb, ne_eqb, le-leb, lt-leb}
use Rattle.t800.specs.Segments.{term_all, bypass, first_limit, next_limit, is_limit}
use Rattle.t800_laws.proofs.Laws.Tests.{on-eq, on-lt, if-eq, if-ne, if-le, if-gt, if-true, if-false}

-- by the style's two bits
abbrev pub opens_in : Bool → Bool → ℕ → Bool
opens_in t b p = t || cond b (eqb p 0 || leb 10 p && not (eqb ((p - 10) % 3) 1)) (eqb (p % 109) 0)

abbrev first_in : Bool → Bool → ℕ
first_in t b = cond t 1 (cond b 10 109)

abbrev next_in : Bool → Bool → ℕ → ℕ
next_in t b m = cond t 1 (cond b (cond (eqb m 2) 1 2) 109)

unfoldable pub limit_in : Bool → Bool → ℕ → ℕ
limit_in t b p = cond (eqb p 0) 0 (cond t 1 (cond b (cond (leb p 10) 10 (cond (eqb ((p - 11) % 3) 2) 1 2)) 109))

unfoldable pub passes_in : Bool → Bool → ℕ → ℕ
passes_in t b p = cond (eqb p 0) 0 (cond t 1 (cond b (cond (leb p 10) p (cond (eqb ((p - 11) % 3) 1) 2 1)) ((p - 1) % 109 + 1)))

-- limit and passes of the current segment after p passes of a block
unfoldable pub limit_after : ℕ → ℕ → ℕ
limit_after s p = limit_in (term_all s) (bypass s) p

unfoldable pub passes_after : ℕ → ℕ → ℕ
passes_after s p = passes_in (term_all s) (bypass s) p

-- the segment that the next pass goes into: its limit, the passes that it has, where it opens, and the closed form after n more
-- passes in it
pub record NextSegment (t b : Bool) (p : ℕ) : Type 0 where
  pub limit : ℕ
  pub has : ℕ
  pub limit_is : cond (eqb (limit_in t b p) (passes_in t b p))
      (cond (eqb (limit_in t b p) 0) (first_in t b) (next_in t b (limit_in t b p))) (limit_in t b p) ≡ limit
  pub has_is : cond (eqb (limit_in t b p) (passes_in t b p)) 0 (passes_in t b p) ≡ has
  pub opens_here : opens_in t b p ≡ eqb (limit_in t b p) (passes_in t b p)
  pub room : has < limit
  pub stays_open : (j : ℕ) → 1 ≤ j → has + j < limit → opens_in t b (p + j) ≡ false
  pub opens_next : opens_in t b (p + (limit - has)) ≡ true
  pub limit_after_lem : (n : ℕ) → 1 ≤ n → has + n ≤ limit → limit_in t b (p + n) ≡ limit
  pub passes_after_lem : (n : ℕ) → 1 ≤ n → has + n ≤ limit → passes_in t b (p + n) ≡ has + n

-- what the closed forms come to
none_yet : (t b : Bool) (p : ℕ) → p ≡ 0 → (limit_in t b p ≡ 0) × (passes_in t b p ≡ 0)
unfolding limit_in passes_in
none_yet t b p h = (if-eq p 0 _ _ h, if-eq p 0 _ _ h)

each_pass : (b : Bool) (p : ℕ) → 1 ≤ p → (limit_in true b p ≡ 1) × (passes_in true b p ≡ 1)
unfolding limit_in passes_in
each_pass b p h = (if-ne p 0 _ _ (omega arith), if-ne p 0 _ _ (omega arith))

plain_passes : (p : ℕ) → 1 ≤ p → (limit_in false false p ≡ 109) × (passes_in false false p ≡ (p - 1) % 109 + 1)
unfolding limit_in passes_in
plain_passes p h = (if-ne p 0 _ _ (omega arith), if-ne p 0 _ _ (omega arith))

bypass-first : (p : ℕ) → 1 ≤ p → p ≤ 10 → (limit_in false true p ≡ 10) × (passes_in false true p ≡ p)
unfolding limit_in passes_in
bypass-first p h g = (if-ne p 0 _ _ (omega arith) ∙ if-le p 10 _ _ g, if-ne p 0 _ _ (omega arith) ∙ if-le p 10 _ _ g)

bypass-one : (p : ℕ) → 11 ≤ p → (p - 11) % 3 ≡ 2 → (limit_in false true p ≡ 1) × (passes_in false true p ≡ 1)
unfolding limit_in passes_in
bypass-one p h e = (
  if-ne p 0 _ _ (omega arith) ∙ if-gt p 10 _ _ (omega arith) ∙ if-eq ((p - 11) % 3) 2 _ _ e,
  if-ne p 0 _ _ (omega arith) ∙ if-gt p 10 _ _ (omega arith) ∙ if-ne ((p - 11) % 3) 1 _ _ (omega arith),
)

bypass-two_begun : (p : ℕ) → 11 ≤ p → (p - 11) % 3 ≡ 0 → (limit_in false true p ≡ 2) × (passes_in false true p ≡ 1)
unfolding limit_in passes_in
bypass-two_begun p h e = (
  if-ne p 0 _ _ (omega arith) ∙ if-gt p 10 _ _ (omega arith) ∙ if-ne ((p - 11) % 3) 2 _ _ (omega arith),
  if-ne p 0 _ _ (omega arith) ∙ if-gt p 10 _ _ (omega arith) ∙ if-ne ((p - 11) % 3) 1 _ _ (omega arith),
)

bypass-two_full : (p : ℕ) → 11 ≤ p → (p - 11) % 3 ≡ 1 → (limit_in false true p ≡ 2) × (passes_in false true p ≡ 2)
unfolding limit_in passes_in
bypass-two_full p h e = (
  if-ne p 0 _ _ (omega arith) ∙ if-gt p 10 _ _ (omega arith) ∙ if-ne ((p - 11) % 3) 2 _ _ (omega arith),
  if-ne p 0 _ _ (omega arith) ∙ if-gt p 10 _ _ (omega arith) ∙ if-eq ((p - 11) % 3) 1 _ _ e,
)

-- where the bypass style opens
first_stays_open : (p : ℕ) → 1 ≤ p → p < 10 → opens_in false true p ≡ false
first_stays_open p h g = cc (ne_eqb p 0 (omega arith), lt-leb 10 p g)

first_opens : (p : ℕ) → p ≡ 0 → opens_in false true p ≡ true
first_opens p h = rw (eq-eqb p 0 h)

later_opens : (p : ℕ) → 10 ≤ p → (p - 10) % 3 ≢ 1 → opens_in false true p ≡ true
later_opens p h g = rw (ne_eqb p 0 (omega arith), le-leb 10 p h, ne_eqb ((p - 10) % 3) 1 g)

later_stays_open : (p : ℕ) → 10 ≤ p → (p - 10) % 3 ≡ 1 → opens_in false true p ≡ false
later_stays_open p h g = rw (ne_eqb p 0 (omega arith), le-leb 10 p h, eq-eqb ((p - 10) % 3) 1 g)

-- the next pass opens a segment, or goes on with one
module _ (t b : Bool) (p m u : ℕ) (q : (limit_in t b p ≡ m) × (passes_in t b p ≡ u)) where
  opens_now : m ≡ u → (nl : ℕ) → cond (eqb m 0) (first_in t b) (next_in t b m) ≡ nl → opens_in t b p ≡ true → 0 < nl
      → ((j : ℕ) → 1 ≤ j → j < nl → opens_in t b (p + j) ≡ false) → opens_in t b (p + nl) ≡ true
      → ((n : ℕ) → 1 ≤ n → n ≤ nl → (limit_in t b (p + n) ≡ nl) × (passes_in t b (p + n) ≡ n)) → NextSegment t b p
  opens_now e nl l o r qt en lu =
      let same : eqb (limit_in t b p) (passes_in t b p) ≡ true = eq-eqb _ _ (q.0 ∙ e ∙ sym q.1) in
      record {
        limit = nl;
        has = 0;
        limit_is = if-true _ _ _ same ∙ ap (λ (z : ℕ). cond (eqb z 0) (first_in t b) (next_in t b z)) q.0 ∙ l;
        has_is = if-true _ _ _ same;
        opens_here = o ∙ sym same;
        room = r;
        stays_open = λ j h g. qt j h (omega arith);
        opens_next = ap (λ (z : ℕ). opens_in t b (p + z)) (sub-zero nl) ∙ en;
        limit_after_lem = λ n h g. (lu n h (omega arith)).0;
        passes_after_lem = λ n h g. (lu n h (omega arith)).1 ∙ omega arith;
      }

  goes_on : m ≢ u → opens_in t b p ≡ false → u < m → ((j : ℕ) → 1 ≤ j → u + j < m → opens_in t b (p + j) ≡ false)
      → opens_in t b (p + (m - u)) ≡ true
      → ((n : ℕ) → 1 ≤ n → u + n ≤ m → (limit_in t b (p + n) ≡ m) × (passes_in t b (p + n) ≡ u + n)) → NextSegment t b p
  goes_on e o r qt en lu =
      let same : eqb (limit_in t b p) (passes_in t b p) ≡ false = ne_eqb _ _ (λ z. e (sym q.0 ∙ z ∙ q.1)) in
      record {
        limit = m;
        has = u;
        limit_is = if-false _ _ _ same ∙ q.0;
        has_is = if-false _ _ _ same ∙ q.1;
        opens_here = o ∙ sym same;
        room = r;
        stays_open = qt;
        opens_next = en;
        limit_after_lem = λ n h g. (lu n h g).0;
        passes_after_lem = λ n h g. (lu n h g).1;
      }

-- the two equations, along equal numbers
same_as : (t b : Bool) (p m u m' u' : ℕ) → m ≡ m' → u ≡ u' → (limit_in t b p ≡ m) × (passes_in t b p ≡ u) → (limit_in t b p ≡ m')
    × (passes_in t b p ≡ u')
same_as t b p m u m' u' e f q = (q.0 ∙ e, q.1 ∙ f)

next_each : (b : Bool) (p : ℕ) → NextSegment true b p
next_each b p =
    on-eq p 0
    (λ h. opens_now true b p 0 0 (none_yet true b p h) refl 1 refl refl (omega arith) (λ j h g. absurd (omega arith)) refl
    (λ n h g. same_as true b (p + n) 1 1 1 n refl (omega arith) (each_pass b (p + n) (omega arith))))
    (λ h. opens_now true b p 1 1 (each_pass b p (omega arith)) refl 1 refl refl (omega arith) (λ j h g. absurd (omega arith)) refl
    (λ n h g. same_as true b (p + n) 1 1 1 n refl (omega arith) (each_pass b (p + n) (omega arith))))

plain_opened : (p n : ℕ) → p % 109 ≡ 0 → 1 ≤ n → n ≤ 109 → (p + n - 1) % 109 + 1 ≡ n
plain_opened p n e h g = omega arith

plain_goes_on : (p n : ℕ) → 1 ≤ n → p % 109 + n ≤ 109 → (p + n - 1) % 109 + 1 ≡ p % 109 + n
plain_goes_on p n h g = omega arith

next_plain : (p : ℕ) → NextSegment false false p
next_plain p =
    on-eq (p % 109) 0
    (λ e. on-eq p 0
    (λ h. opens_now false false p 0 0 (none_yet false false p h) refl 109 refl (eq-eqb (p % 109) 0 e) (omega arith)
    (λ j h g. ne_eqb ((p + j) % 109) 0 (omega arith)) (eq-eqb ((p + 109) % 109) 0 (omega arith))
    (λ n h g. same_as false false (p + n) 109 ((p + n - 1) % 109 + 1) 109 n refl (plain_opened p n e h g)
    (plain_passes (p + n) (omega arith))))
    (λ h. opens_now false false p 109 109
    (same_as false false p 109 ((p - 1) % 109 + 1) 109 109 refl (omega arith) (plain_passes p (omega arith))) refl 109 refl
    (eq-eqb (p % 109) 0 e) (omega arith)
    (λ j h g. ne_eqb ((p + j) % 109) 0 (omega arith)) (eq-eqb ((p + 109) % 109) 0 (omega arith))
    (λ n h g. same_as false false (p + n) 109 ((p + n - 1) % 109 + 1) 109 n refl (plain_opened p n e h g)
    (plain_passes (p + n) (omega arith)))))
    (λ e. goes_on false false p 109 (p % 109)
    (same_as false false p 109 ((p - 1) % 109 + 1) 109 (p % 109) refl (omega arith) (plain_passes p (omega arith)))
    (omega arith) (ne_eqb (p % 109) 0 e) (omega arith)
    (λ j h g. ne_eqb ((p + j) % 109) 0 (omega arith)) (eq-eqb ((p + (109 - p % 109)) % 109) 0 (omega arith))
    (λ n h g. same_as false false (p + n) 109 ((p + n - 1) % 109 + 1) 109 (p % 109 + n) refl (plain_goes_on p n h g)
    (plain_passes (p + n) (omega arith))))

-- from pass 10 on
two_later : (p : ℕ) → 10 ≤ p → (p - 10) % 3 ≡ 0 → (n : ℕ) → 1 ≤ n → n ≤ 2 → (limit_in false true (p + n) ≡ 2)
    × (passes_in false true (p + n) ≡ n)
two_later p h e n lo hi =
    on-eq n 1
    (λ z. same_as false true (p + n) 2 1 2 n refl (omega arith) (bypass-two_begun (p + n) (omega arith) (omega arith)))
    (λ z. same_as false true (p + n) 2 2 2 n refl (omega arith) (bypass-two_full (p + n) (omega arith) (omega arith)))

next_late : (p : ℕ) → 10 ≤ p → NextSegment false true p
next_late p h =
    on-eq ((p - 10) % 3) 0
    (λ e. let rest : (m u : ℕ) → (limit_in false true p ≡ m) × (passes_in false true p ≡ u) → m ≡ u
    → cond (eqb m 0) (first_in false true) (next_in false true m) ≡ 2 → NextSegment false true p
    = λ m u q z l. opens_now false true p m u q z 2 l (later_opens p h (omega arith)) (omega arith)
    (λ j lo hi. later_stays_open (p + j) (omega arith) (omega arith)) (later_opens (p + 2) (omega arith) (omega arith)) (two_later p h e) in
    on-eq p 10
    (λ z. rest 10 10 (same_as false true p 10 p 10 10 refl z (bypass-first p (omega arith) (omega arith))) refl refl)
    (λ z. rest 1 1 (bypass-one p (omega arith) (omega arith)) refl refl))
    (λ e. on-eq ((p - 10) % 3) 1
    (λ f. goes_on false true p 2 1 (bypass-two_begun p (omega arith) (omega arith)) (omega arith) (later_stays_open p h f) (omega arith)
    (λ j lo hi. absurd (omega arith)) (later_opens (p + 1) (omega arith) (omega arith))
    (λ n lo hi. same_as false true (p + n) 2 2 2 (1 + n) refl (omega arith) (bypass-two_full (p + n) (omega arith) (omega arith))))
    (λ f. opens_now false true p 2 2 (bypass-two_full p (omega arith) (omega arith)) refl 1 refl (later_opens p h f) (omega arith)
    (λ j lo hi. absurd (omega arith)) (later_opens (p + 1) (omega arith) (omega arith))
    (λ n lo hi. same_as false true (p + n) 1 1 1 n refl (omega arith) (bypass-one (p + n) (omega arith) (omega arith)))))

next_bypass : (p : ℕ) → NextSegment false true p
next_bypass p =
    on-lt p 10
    (λ h. on-eq p 0
    (λ z. opens_now false true p 0 0 (none_yet false true p z) refl 10 refl (first_opens p z) (omega arith)
    (λ j lo hi. first_stays_open (p + j) (omega arith) (omega arith)) (later_opens (p + 10) (omega arith) (omega arith))
    (λ n lo hi. same_as false true (p + n) 10 (p + n) 10 n refl (omega arith) (bypass-first (p + n) (omega arith) (omega arith))))
    (λ z. goes_on false true p 10 p (bypass-first p (omega arith) (omega arith)) (omega arith) (first_stays_open p (omega arith) h) h
    (λ j lo hi. first_stays_open (p + j) (omega arith) (omega arith)) (later_opens (p + (10 - p)) (omega arith) (omega arith))
    (λ n lo hi. bypass-first (p + n) (omega arith) (omega arith))))
    (λ h. next_late p h)

next_in_lem : (t b : Bool) (p : ℕ) → NextSegment t b p
next_in_lem true b p = next_each b p
next_in_lem false true p = next_bypass p
next_in_lem false false p = next_plain p

pub next_segment_lem : (s p : ℕ) → NextSegment (term_all s) (bypass s) p
next_segment_lem s p = next_in_lem (term_all s) (bypass s) p

-- ---- ranges

abbrev is_limit_in : Bool → Bool → ℕ → Bool
is_limit_in t b m = eqb m (first_in t b) || eqb m (next_in t b 2) || eqb m (next_in t b 1)

record InRange (t b : Bool) (p : ℕ) : Type 0 where
  limit : is_limit_in t b (limit_in t b p) ≡ true
  some : 1 ≤ passes_in t b p
  most : passes_in t b p ≤ limit_in t b p

in_range : (t b : Bool) (p m u : ℕ) → (limit_in t b p ≡ m) × (passes_in t b p ≡ u) → is_limit_in t b m ≡ true → 1 ≤ u → u ≤ m → InRange t b p
in_range t b p m u q i lo hi =
    record {
      limit = ap (is_limit_in t b) q.0 ∙ i;
      some = le_trans lo (le_of_eq (sym q.1));
      most = le_trans (le_of_eq q.1) (le_trans hi (le_of_eq (sym q.0)));
    }

in_range_of : (t b : Bool) (p : ℕ) → 1 ≤ p → InRange t b p
in_range_of true b p h = in_range true b p 1 1 (each_pass b p h) refl (omega arith) (omega arith)
in_range_of false false p h = in_range false false p 109 ((p - 1) % 109 + 1) (plain_passes p h) refl (omega arith) (omega arith)
in_range_of false true p h =
    on-lt p 11
    (λ g. in_range false true p 10 p (bypass-first p h (omega arith)) refl h (omega arith))
    (λ g. on-eq ((p - 11) % 3) 0
    (λ e. in_range false true p 2 1 (bypass-two_begun p g e) refl (omega arith) (omega arith))
    (λ e. on-eq ((p - 11) % 3) 1
    (λ f. in_range false true p 2 2 (bypass-two_full p g f) refl (omega arith) (omega arith))
    (λ f. in_range false true p 1 1 (bypass-one p g (omega arith)) refl (omega arith) (omega arith))))

pub limit_in_range : (s p : ℕ) → 1 ≤ p → is_limit s (limit_after s p) ≡ true
unfolding is_limit limit_after first_limit next_limit
limit_in_range s p h = (in_range_of (term_all s) (bypass s) p h).limit

pub passes_in_range : (s p : ℕ) → 1 ≤ p → (1 ≤ passes_after s p) × (passes_after s p ≤ limit_after s p)
unfolding limit_after passes_after
passes_in_range s p h = let r = in_range_of (term_all s) (bypass s) p h in (r.some, r.most)

pub none_after_0 : (s p : ℕ) → p ≡ 0 → (limit_after s p ≡ 0) × (passes_after s p ≡ 0)
unfolding limit_after passes_after
none_after_0 s p h = none_yet (term_all s) (bypass s) p h
