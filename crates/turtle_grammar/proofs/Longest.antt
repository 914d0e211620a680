-- The longest front of a text that matches a pattern, and where a text stops to begin one.
use Rattle.std.proofs.Common.{◌≡◌, ◌⊎◌, inl, inr, ⊎_elim, ℕ, zero, suc, ◌<◌, ◌≤◌, Bool, true, false, List, length, take, refl, sym, ◌∙◌, subst, true≢false, arith}
use Rattle.turtle_grammar.specs.Pattern.{Pattern, Matches, matches}
use Rattle.turtle_grammar.specs.Tokens.{IsLongest, HasNone}
use Rattle.turtle_grammar.proofs.Derivatives.{sound, complete}

-- it is known whether it holds
abbrev pub Decided : Type 0 → Type 0
Decided P = P ⊎ (P → ⊥)

-- the greatest number up to b that has a property
abbrev pub IsGreatest : (ℕ → Type 0) → ℕ → ℕ → Type 0
IsGreatest P b n = (n ≤ b) × P n × ((m : ℕ) → m ≤ b → P m → m ≤ n)

abbrev pub NoneUpTo : (ℕ → Type 0) → ℕ → Type 0
NoneUpTo P b = (m : ℕ) → m ≤ b → P m → ⊥

less_or_last : (m b : ℕ) → m ≤ suc b → (m ≤ b) ⊎ (m ≡ suc b)
less_or_last m b le = grind arith

pub greatest : (P : ℕ → Type 0) → ((m : ℕ) → Decided (P m)) → (b : ℕ) → ((n : ℕ) × IsGreatest P b n) ⊎ NoneUpTo P b
greatest P decide zero = by (decide zero)
  where
    by : Decided (P zero) → ((n : ℕ) × IsGreatest P zero n) ⊎ NoneUpTo P zero
    by (inl h) = inl (zero, (omega arith, h, λ m le p. le))
    by (inr never) = inr (λ m le p. let e : m ≡ zero = omega arith in never (subst P e p))
greatest P decide (suc b) = by (decide (suc b)) (greatest P decide b)
  where
    by : Decided (P (suc b)) → ((n : ℕ) × IsGreatest P b n) ⊎ NoneUpTo P b → ((n : ℕ) × IsGreatest P (suc b) n) ⊎ NoneUpTo P (suc b)
    by (inl h) rest = inl (suc b, (omega arith, h, λ m le p. le))
    by (inr never) (inl (n, h)) =
        inl (n, (omega (arith, h.0), h.1, λ m le p. ⊎_elim (λ less. h.2 m less p) (λ same. absurd (never (subst P same p))) (less_or_last m b le)))
    by (inr never) (inr none) = inr (λ m le p. ⊎_elim (λ less. none m less p) (λ same. never (subst P same p)) (less_or_last m b le))

-- a property that holds at 0 and not at b ends somewhere between
pub edge : (P : ℕ → Type 0) → ((m : ℕ) → Decided (P m)) → (b : ℕ) → P zero → (P b → ⊥) → (i : ℕ) × (i < b) × P i × (P (suc i) → ⊥)
edge P decide zero held never = absurd (never held)
edge P decide (suc b) held never = by (decide b) (λ none. edge P decide b held none)
  where
    by : Decided (P b) → ((P b → ⊥) → (i : ℕ) × (i < b) × P i × (P (suc i) → ⊥)) → (i : ℕ) × (i < suc b) × P i × (P (suc i) → ⊥)
    by (inl h) rest = (b, omega arith, h, never)
    by (inr none) rest = let r = rest none in (r.0, omega (arith, r.1), r.2, r.3)

pub match_told : (p : Pattern) (text : List ℕ) → Decided (Matches p text)
match_told p text = by (matches p text) refl
  where
    by : (b : Bool) → matches p text ≡ b → Decided (Matches p text)
    by true e = inl (sound p text e)
    by false e = inr (λ h. true≢false (sym (complete p text h) ∙ e))

pub longest_or_none : (p : Pattern) (text : List ℕ) → ((n : ℕ) × IsLongest p text n) ⊎ HasNone p text
longest_or_none p text = greatest (λ n. Matches p (take n text)) (λ m. match_told p (take m text)) (length text)
