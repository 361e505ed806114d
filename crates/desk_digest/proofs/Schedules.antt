-- Laws on the message schedule in an array that is filled word by word.
use Rattle.std.proofs.Common.{◌≡◌, ℕ, ◌+◌, ◌-◌, ◌<◌, ◌≤◌, Bool, true, false, ltb, List, length, take, set, refl, ◌∙◌, add-one, arith, get_or-take, take-suc-set, ltb-false}
use Rattle.desk_digest.specs.Sha256.{mixed, schedule_word, grown, schedule}

-- only the words before W_t are read
before : (w : List ℕ) (t : ℕ) → 16 ≤ t → mixed (take t w) t ≡ mixed w t
unfolding mixed
before w t h =
    let a : t - 2 < t = omega arith in
    let b : t - 7 < t = omega arith in
    let c : t - 15 < t = omega arith in
    let d : t - 16 < t = omega arith in
    rw (get_or-take t w (t - 2) 0 a, get_or-take t w (t - 7) 0 b, get_or-take t w (t - 15) 0 c, get_or-take t w (t - 16) 0 d)

-- so W_t is the same of the whole array
word_of : (m : List ℕ) (at : ℕ) (w : List ℕ) (t : ℕ) → schedule_word m at (take t w) t ≡ schedule_word m at w t
unfolding schedule_word
word_of m at w t = go (ltb t 16) refl
  where
    go : (b : Bool) → ltb t 16 ≡ b → schedule_word m at (take t w) t ≡ schedule_word m at w t
    go true e = rw e
    go false e = rw (e, before w t (ltb-false t 16 e))

-- one more word
pub filled : (m : List ℕ) (at : ℕ) (w : List ℕ) (t x : ℕ) → t < length w → x ≡ schedule_word m at w t → take t w ≡ schedule m at t
    → take (t + 1) (set w t x) ≡ schedule m at (t + 1)
unfolding schedule grown
filled m at w t x h e s = rw (add-one, e) (take-suc-set w t _ h ∙ rw (← s, word_of m at w t))
