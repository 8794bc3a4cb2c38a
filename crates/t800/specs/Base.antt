-- Tests, sums, a logarithm and two forms of a lent list: nothing here is of JPEG 2000.
-- A branch that calls itself is bound by a `let`, so that only the branch taken is computed.
use Rattle.std.specs.Prelude.{ℕ, zero, suc, ◌+◌, ◌/◌, Bool, true, false, cond, ◌&&◌, ◌||◌, List, [], ◌∷◌, ◌++◌, length, drop, replicate, ltb}

-- a list of words, of bytes, of bits; a word has 32 bits, and 64 in an answer
abbrev pub Words : Type 0
Words = List ℕ

abbrev pub Bytes : Type 0
Bytes = List ℕ

abbrev pub Bits : Type 0
Bits = List ℕ

-- the test holds at each number below n
unfoldable pub every : (n : ℕ) (test : ℕ → Bool) → Bool
every zero test = true
every (suc n) test = test n && every n test

-- the test holds of some entry
unfoldable pub any {ℓ} : {A : Type ℓ} → (test : A → Bool) → List A → Bool
any test [] = false
any test (x ∷ xs) = test x || any test xs

unfoldable pub sum : List ℕ → ℕ
sum [] = 0
sum (x ∷ xs) = x + sum xs

-- how often n can be halved before it is below 2, up to a bound
unfoldable pub halvings : (bound n : ℕ) → ℕ
halvings zero n = 0
halvings (suc bound) n = let r = 1 + halvings bound (n / 2) in cond (ltb n 2) 0 r

-- floor (log2 n), and 0 at 0
unfoldable pub floor_log2 : (n : ℕ) → ℕ
floor_log2 n = halvings n n

-- xs over the front of a lent list
unfoldable pub overwrite {ℓ} : {A : Type ℓ} → (lent xs : List A) → List A
overwrite lent xs = xs ++ drop (length xs) lent

-- zeros over the whole of a lent list of numbers
abbrev pub wiped : (lent : List ℕ) → List ℕ
wiped lent = replicate (length lent) 0
