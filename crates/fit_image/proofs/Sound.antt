-- Words that pass are the image of the state that they stand for, which is within the limits and narrow.
use mathlib.Core.Path.{◌≡◌, refl, sym, ap, ◌∙◌}
use mathlib.Core.Bool.{true, ◌&&◌, false≢true}
use mathlib.Core.List.{List, [], ◌∷◌, ◌++◌, append_assoc}
use mathlib.Core.Option.{none, some}
use Prim.Native.Nat.{ℕ, zero, suc, ◌+◌, ◌*◌, ◌-◌, ◌≤◌}
use native.Mathlib.Omega.{arith}
use lib.Dec.{eqb, leb}
use lib.ListN.{length, get_or, take, drop, replicate, length-append, length-drop, take-append-drop}
use lib.Seq.{take_at, drop_at, drop-drop, length-take-le, get_or-take, get_or-drop}
use borrow.Author.Tests.{eqb-true, leb-true}
use Rattle.words.specs.Blocks.{all_zero}
use Rattle.words.specs.Stacks.{region, entries, Every, total}
use Rattle.words.proofs.Tests.{both}
use Rattle.words.proofs.Entries.{length-entries, region_sound}
use Rattle.spec_machine.specs.Machine.{Exception, abort, State, exception, calling, returned}
use Rattle.spec_machine.specs.Fit.{WithinLimits, caller_limit, frame_limit}
use Rattle.spec_image.specs.Layout.{filled, frame_words, activation_words, env_words}
use Rattle.spec_image.specs.Image.{head_words, activations_of, frames_of, env_part, image}
use Rattle.spec_image.specs.Decode.{frame_of, control_of, activation_of, frames_held, held_in, running_of, activations_in, frames_in, env_of, states, state_of}
use Rattle.spec_image.specs.Sizes.{size}
use Rattle.spec_image.specs.Memory.{Holds}
use Rattle.spec_image.specs.Narrow.{NarrowFrame, NarrowActivation, Narrow}
use Rattle.spec_image.proofs.Rooms.{rooms}
use Rattle.fit_image.specs.BlockTests.{control_ok, frame_ok, activation_ok}
use Rattle.fit_image.specs.MemoryTest.{passing, tag_ok, head_ok, activations_ok, frames_ok, entry_ok, env_ok, image_ok}
use Rattle.fit_image.proofs.SlotTests.{control_sound}
use Rattle.fit_image.proofs.BlockTests.{frame_sound, activation_sound}
use Rattle.fit_image.proofs.Environments.{env_sound, env_final}
use Rattle.fit_image.proofs.Passing.{passing_sound}
use Rattle.fit_image.proofs.Runs.{runs, head_sound, plain, few_said}

-- ---- the rooms

module _ (l : List ℕ) (long : 16384 ≤ length l) where
  -- n activations that pass, in their room
  activations_sound : (n : ℕ) → n ≤ 32 → activations_ok l n ≡ true
      → let X = entries 136 activation_of l 128 n in
      (l ≡ take 128 l ++ (region 136 activation_words 32 X ++ drop 4480 l)) × Every NarrowActivation X
  unfolding activations_ok
  activations_sound n h e =
      let t = both (passing 136 activation_ok l 128 n) (all_zero (take ((32 - n) * 136) (drop (128 + n * 136) l))) e in
      let p = passing_sound 136 activation_words activation_ok activation_of NarrowActivation activation_sound l 128 n (omega arith) t.0 in
      (region_sound 136 activation_words activation_of l 32 128 n h (omega arith) p.0 t.1, p.1)

  -- n frames that pass, in theirs
  frames_sound : (n : ℕ) → n ≤ 512 → frames_ok l n ≡ true
      → let F = entries 20 frame_of l 4480 n in
      (drop 4480 l ≡ region 20 frame_words 512 F ++ drop 14720 l) × Every NarrowFrame F
  unfolding frames_ok
  frames_sound n h e =
      let F = entries 20 frame_of l 4480 n in
      let t = both (passing 20 frame_ok l 4480 n) (all_zero (take ((512 - n) * 20) (drop (4480 + n * 20) l))) e in
      let p = passing_sound 20 frame_words frame_ok frame_of NarrowFrame frame_sound l 4480 n (omega arith) t.0 in
      let r : l ≡ take 4480 l ++ (region 20 frame_words 512 F ++ drop 14720 l) = region_sound 20 frame_words frame_of l 512 4480 n h (omega arith) p.0 t.1 in
      (ap (drop 4480) r ∙ drop_at (take 4480 l) (region 20 frame_words 512 F ++ drop 14720 l) 4480 (length-take-le 4480 l (omega arith)), p.1)

  -- the words of the environment
  abbrev last : List ℕ
  last = take 1664 (drop 14720 l)

  last_long : length last ≡ 1664
  last_long = length-take-le 1664 (drop 14720 l) (simp length-drop (omega arith))

  last_entry : get_or last 1 0 ≡ get_or l 14721 0
  last_entry = get_or-take 1664 (drop 14720 l) 1 0 (omega arith) ∙ get_or-drop 14720 l 1 0

  last_parted : drop 14720 l ≡ last ++ drop 16384 l
  last_parted = sym (take-append-drop 1664 (drop 14720 l)) ∙ ap (λ (k : List ℕ). last ++ k) (drop-drop 1664 14720 l)

  -- a list that begins with a part and goes on as l does after size words
  begins : (p : List ℕ) → l ≡ p ++ drop size l → take size l ≡ p
  begins p e =
      let n : length l ≡ length p + length (drop size l) = ap length e ∙ length-append p (drop size l) in
      let d : length (drop size l) ≡ length l - size = length-drop size l in
      ap (take size) e ∙ take_at p (drop size l) size (omega arith)

  -- ---- the whole

  module _ (e : image_ok l ≡ true) where
    head_ok_lem : head_ok l ≡ true
    unfolding image_ok
    head_ok_lem = (both (head_ok l) _ e).0

    said : tag_ok (get_or l 0 0) (get_or l 1 0) (get_or l 2 0) (get_or l 3 0) (get_or l 4 0) ≡ true
    unfolding head_ok
    said = (both (tag_ok (get_or l 0 0) (get_or l 1 0) (get_or l 2 0) (get_or l 3 0) (get_or l 4 0)) (all_zero (take 123 (drop 5 l))) head_ok_lem).0

    words : take 128 l ≡ get_or l 0 0 ∷ get_or l 1 0 ∷ get_or l 2 0 ∷ get_or l 3 0 ∷ get_or l 4 0 ∷ replicate 123 0
    unfolding head_ok
    words = head_sound l (omega arith) (both (tag_ok (get_or l 0 0) (get_or l 1 0) (get_or l 2 0) (get_or l 3 0) (get_or l 4 0)) (all_zero (take 123 (drop 5 l))) head_ok_lem).1

    held : held_in l (get_or l 2 0) ≡ total frames_held (activations_in l)
    unfolding activations_in
    held = refl

    few : get_or l 2 0 ≤ caller_limit
    few = few_said _ _ _ _ _ said

    few_held : held_in l (get_or l 2 0) ≤ frame_limit
    unfolding image_ok
    few_held = leb-true (held_in l (get_or l 2 0)) frame_limit (both (leb (held_in l (get_or l 2 0)) frame_limit) _ (both (activations_ok l (get_or l 2 0)) _ (both (head_ok l) _ e).1).1).0

    lower : (l ≡ take 128 l ++ (region 136 activation_words 32 (activations_in l) ++ drop 4480 l)) × Every NarrowActivation (activations_in l)
    unfolding image_ok activations_in
    lower = activations_sound (get_or l 2 0) (omega (arith, few)) (both (activations_ok l (get_or l 2 0)) _ (both (head_ok l) _ e).1).0

    rest : frames_ok l (held_in l (get_or l 2 0)) && env_ok (get_or l 0 0) last ≡ true
    unfolding image_ok
    rest = (both (leb (held_in l (get_or l 2 0)) frame_limit) _ (both (activations_ok l (get_or l 2 0)) _ (both (head_ok l) _ e).1).1).1

    upper : (drop 4480 l ≡ region 20 frame_words 512 (frames_in l) ++ drop 14720 l) × Every NarrowFrame (frames_in l)
    unfolding frames_in
    upper = rw (← held) (frames_sound (held_in l (get_or l 2 0)) (omega (arith, few_held)) (both (frames_ok l (held_in l (get_or l 2 0))) (env_ok (get_or l 0 0) last) rest).0)

    -- the environment that they are of, and none under a final tag
    env_ok_lem : (t : ℕ) → get_or l 0 0 ≡ t → env_ok t last ≡ true
    env_ok_lem t q = rw (← q) (both (frames_ok l (held_in l (get_or l 2 0))) (env_ok (get_or l 0 0) last) rest).1

    going : env_words (env_of l) ≡ last
    unfolding env_of
    going = sym (env_sound (get_or l 0 0) last last_long (env_ok_lem (get_or l 0 0) refl) ∙ rw last_entry)

    final : (t : ℕ) → get_or l 0 0 ≡ t → entry_ok t (get_or last 1 0) ≡ eqb (get_or last 1 0) 0 → replicate 1664 0 ≡ last
    final t q f = sym (env_final t last last_long (env_ok_lem t q) f)

    parts : take size l ≡ rooms (take 128 l) (activations_in l) (frames_in l) ++ last
    unfolding rooms
    parts =
        let A = region 136 activation_words 32 (activations_in l) in
        let B = region 20 frame_words 512 (frames_in l) in
        begins ((take 128 l ++ (A ++ B)) ++ last)
        (lower.0 ∙ ap (λ (k : List ℕ). take 128 l ++ (A ++ k)) (upper.0 ∙ ap (λ (k : List ℕ). B ++ k) last_parted) ∙ sym (four (take 128 l) A B last (drop 16384 l)))
      where
        four : (p q r t u : List ℕ) → ((p ++ (q ++ r)) ++ t) ++ u ≡ p ++ (q ++ (r ++ (t ++ u)))
        four p q r t u = simp append_assoc

    -- a state that has the words' head, activations, frames and environment
    module _ (s : State) where
      finish : state_of l ≡ s → take 128 l ≡ filled 128 (head_words s) → activations_of s ≡ activations_in l → frames_of s ≡ frames_in l → env_part s ≡ last → WithinLimits s
          → Holds l (state_of l) × WithinLimits (state_of l) × Narrow (state_of l)
      unfolding image rooms
      finish d h a f v w =
          let g : rooms (filled 128 (head_words s)) (activations_of s) (frames_of s) ++ env_part s ≡ image s = simp append_assoc in
          let p : Holds l s = parts ∙ rw (h, ← a, ← f, ← v) g in
          let n : Narrow s = record { frames = rw f upper.1; activations = rw a lower.1 } in
          rw d (p, w, n)

    -- a state that does not run, by its tag and its int
    still : (s : State) (t i : ℕ) → state_of l ≡ s → get_or l 0 0 ≡ t → get_or l 1 0 ≡ i → (get_or l 2 0 ≡ 0) × (get_or l 3 0 ≡ 0) × (get_or l 4 0 ≡ 0)
        → filled 128 (head_words s) ≡ t ∷ i ∷ replicate 126 0 → activations_of s ≡ [] → frames_of s ≡ [] → env_part s ≡ last → WithinLimits s
        → Holds l (state_of l) × WithinLimits (state_of l) × Narrow (state_of l)
    unfolding activations_in frames_in
    still s t i d ht hi z h a f v w = finish s d (words ∙ rw (ht, hi, z.0, z.1, z.2) (sym h)) (a ∙ rw z.0) (f ∙ rw z.0) v w

    -- a state that runs
    run_on : get_or l 0 0 ≡ 2 → get_or l 1 0 ≡ 0 → 1 ≤ get_or l 2 0 → control_ok (get_or l 3 0) (get_or l 4 0) ≡ true
        → Holds l (state_of l) × WithinLimits (state_of l) × Narrow (state_of l)
    unfolding state_of states activations_in frames_in filled
    run_on ht hi hn hc =
        let c = control_of (get_or l 3 0) (get_or l 4 0) in
        let X = activations_in l in
        let F = frames_in l in
        let a : length X ≡ get_or l 2 0 = length-entries 136 activation_of l 128 (get_or l 2 0) in
        let b : length F ≡ total frames_held X = length-entries 20 frame_of l 4480 (total frames_held X) in
        let r = runs c (env_of l) X F (omega arith) b in
        let h : take 128 l ≡ filled 128 (head_words (running_of c (env_of l) X F)) = words ∙ rw (ht, hi, r.head, control_sound (get_or l 3 0) (get_or l 4 0) hc, a) in
        finish (running_of c (env_of l) X F) (rw ht) h r.activations r.frames (r.env ∙ going) (r.within (omega (arith, few)) (omega (arith, few_held, held)))

    by_tag : (t : ℕ) → get_or l 0 0 ≡ t → tag_ok t (get_or l 1 0) (get_or l 2 0) (get_or l 3 0) (get_or l 4 0) ≡ true
        → Holds l (state_of l) × WithinLimits (state_of l) × Narrow (state_of l)
    unfolding tag_ok entry_ok state_of states head_words activations_of frames_of env_part filled
    by_tag zero q u = absurd (false≢true u)
    by_tag (suc zero) q u =
        let b = both (eqb (get_or l 1 0) 0) _ u in
        still (calling (env_of l) none) 1 0 (rw q) q (eqb-true (get_or l 1 0) 0 b.0) (plain _ _ _ b.1) refl refl refl going tt
    by_tag (suc (suc zero)) q u =
        let b = both (eqb (get_or l 1 0) 0) _ u in
        let v = both (leb 1 (get_or l 2 0)) _ b.1 in
        run_on q (eqb-true (get_or l 1 0) 0 b.0) (leb-true 1 (get_or l 2 0) v.0) (both (leb (get_or l 2 0) caller_limit) _ v.1).1
    by_tag (suc (suc (suc zero))) q u = still (returned (env_of l) (get_or l 1 0)) 3 (get_or l 1 0) (rw q) q refl (plain _ _ _ u) refl refl refl going tt
    by_tag (suc (suc (suc (suc zero)))) q u = still (State.value (get_or l 1 0)) 4 (get_or l 1 0) (rw q) q refl (plain _ _ _ u) refl refl refl (final 4 q refl) tt
    by_tag (suc (suc (suc (suc (suc zero))))) q u =
        let b = both (eqb (get_or l 1 0) 0) _ u in
        still (exception Exception.arith) 5 0 (rw q) q (eqb-true (get_or l 1 0) 0 b.0) (plain _ _ _ b.1) refl refl refl (final 5 q refl) tt
    by_tag (suc (suc (suc (suc (suc (suc zero)))))) q u =
        let b = both (eqb (get_or l 1 0) 0) _ u in
        still (exception abort) 6 0 (rw q) q (eqb-true (get_or l 1 0) 0 b.0) (plain _ _ _ b.1) refl refl refl (final 6 q refl) tt
    by_tag (suc (suc (suc (suc (suc (suc (suc zero))))))) q u = absurd (false≢true u)
    by_tag (suc (suc (suc (suc (suc (suc (suc (suc zero)))))))) q u = absurd (false≢true u)
    by_tag (suc (suc (suc (suc (suc (suc (suc (suc (suc zero))))))))) q u = still (calling (env_of l) (some (get_or l 1 0))) 9 (get_or l 1 0) (rw q) q refl (plain _ _ _ u) refl refl refl going tt
    by_tag (suc (suc (suc (suc (suc (suc (suc (suc (suc (suc t)))))))))) q u = absurd (false≢true u)

    -- words that pass are the image of the state that they stand for
    pub image_sound : Holds l (state_of l) × WithinLimits (state_of l) × Narrow (state_of l)
    image_sound = by_tag (get_or l 0 0) refl said
