-- A link whose packets were set aside: it holds none, and what is set aside is what it held.
use Rattle.std.proofs.Common.{◌≡◌, ℕ, zero, suc, ◌+◌, ◌*◌, ◌<◌, ◌≤◌, eqb, List, [], ◌∷◌, ◌++◌, length, get_or, take, drop, set, refl, ap, ◌∙◌, arith, length-drop, length-set, length-take-le, get_or-set_other, get_or-take, get_or-set_same, drop-set-lt, drop_at}
use lib.ListN.{get_or-append}
use lib.Seq.{paste, length-paste, length_paste_head, drop-append-le}
use Rattle.links.specs.Offsets.{state_at, held_at, places_at, place_long, depth, aside_at, aside_places_at, link_long}
use Rattle.links.specs.Link.{Flight}
use Rattle.links.specs.Words.{packet_in, places_in, link_in, aside_in}
use Rattle.mesh.specs.Steps.{emptied}
use Rattle.buffer.specs.Aside.{aside_words}

module _ (w : List ℕ) (n : ℕ) (long : length w ≡ link_long) (few : n ≤ depth * place_long) where
  behind : n ≤ length (drop places_at w)
  behind = simp length-drop (omega arith)

  pub length_copied : length (paste w aside_places_at (drop places_at w) n) ≡ link_long
  length_copied = length-paste w aside_places_at (drop places_at w) n (omega arith) behind ∙ long

  -- the words before the copy are as they were
  pub copied_before : (i : ℕ) → i < aside_places_at → get_or (paste w aside_places_at (drop places_at w) n) i 0 ≡ get_or w i 0
  copied_before i h =
      let first : length (take aside_places_at w) ≡ aside_places_at = length-take-le aside_places_at w (omega arith) in
      let both : length (take aside_places_at w ++ take n (drop places_at w)) ≡ aside_places_at + n = length_paste_head w aside_places_at (drop places_at w) n (omega arith) behind in
      get_or-append (take aside_places_at w ++ take n (drop places_at w)) (drop (aside_places_at + n) w) 0 i (omega (arith, both))
      ∙ get_or-append (take aside_places_at w) (take n (drop places_at w)) 0 i (omega (arith, first))
      ∙ get_or-take aside_places_at w i 0 h

  -- and the copy stands behind them
  pub copied_behind : drop aside_places_at (paste w aside_places_at (drop places_at w) n) ≡ take n (drop places_at w) ++ drop (aside_places_at + n) w
  copied_behind =
      let first : length (take aside_places_at w) ≡ aside_places_at = length-take-le aside_places_at w (omega arith) in
      let both : length (take aside_places_at w ++ take n (drop places_at w)) ≡ aside_places_at + n = length_paste_head w aside_places_at (drop places_at w) n (omega arith) behind in
      drop-append-le aside_places_at (take aside_places_at w ++ take n (drop places_at w)) (drop (aside_places_at + n) w) (omega (arith, both))
      ∙ ap (λ (l : List ℕ). l ++ drop (aside_places_at + n) w) (drop_at (take aside_places_at w) (take n (drop places_at w)) aside_places_at first)

-- the packets in n places are read from their words alone
places_front : (n : ℕ) (l rest : List ℕ) → n * place_long ≤ length l → places_in n (take (n * place_long) l ++ rest) ≡ places_in n l
unfolding places_in
places_front zero l rest h = refl
places_front (suc n) [] rest h = absurd (omega arith)
places_front (suc n) (x ∷ []) rest h = absurd (omega arith)
places_front (suc n) (x ∷ y ∷ []) rest h = absurd (omega arith)
places_front (suc n) (x ∷ y ∷ z ∷ l) rest h =
    let e : suc n * place_long ≡ suc (suc (suc (n * place_long))) = omega arith in
    ap (λ (k : ℕ). places_in (suc n) (take k (x ∷ y ∷ z ∷ l) ++ rest)) e
    ∙ ap (λ (fs : List (Flight (Unit {0}))). record { packet = packet_in (x ∷ y ∷ z ∷ l); tag = tt } ∷ fs) (places_front n l rest (omega arith))

module _ (w : List ℕ) (long : length w ≡ link_long) (few : get_or w held_at 0 ≤ 8) where
  abbrev copied : List ℕ
  copied = paste w aside_places_at (drop places_at w) (get_or w held_at 0 * place_long)

  within : get_or w held_at 0 * place_long ≤ depth * place_long
  within = omega arith

  sized : length (paste w aside_places_at (drop places_at w) (get_or w held_at 0 * place_long)) ≡ link_long
  sized = length_copied w (get_or w held_at 0 * place_long) long within

  pub length_aside : length (aside_words w) ≡ link_long
  length_aside = simp length-set sized

  pub state_aside : get_or (aside_words w) state_at 0 ≡ get_or w state_at 0
  state_aside =
      get_or-set_other (set copied aside_at (get_or w held_at 0)) held_at state_at 0 0 (λ e. omega arith)
      ∙ get_or-set_other copied aside_at state_at (get_or w held_at 0) 0 (λ e. omega arith)
      ∙ copied_before w (get_or w held_at 0 * place_long) long within 0 (omega arith)

  none_held : get_or (aside_words w) held_at 0 ≡ 0
  none_held = get_or-set_same (set copied aside_at (get_or w held_at 0)) held_at 0 0 (simp length-set (omega (arith, sized)))

  count_aside : get_or (aside_words w) aside_at 0 ≡ get_or w held_at 0
  count_aside =
      get_or-set_other (set copied aside_at (get_or w held_at 0)) held_at aside_at 0 0 (λ e. omega arith) ∙ get_or-set_same copied aside_at (get_or w held_at 0) 0 (omega (arith, sized))

  pub link_aside : link_in (aside_words w) ≡ emptied (link_in w)
  unfolding places_in
  link_aside =
      (λ i. record { up = eqb (state_aside i) 0; held = places_in (none_held i) (drop 2 (aside_words w)) })

  pub aside_held : aside_in (aside_words w) ≡ (link_in w).held
  aside_held =
      (λ i. places_in (count_aside i) (drop aside_places_at (aside_words w)))
      ∙ ap (places_in (get_or w held_at 0))
      (drop-set-lt aside_places_at (set copied aside_at (get_or w held_at 0)) held_at 0 (omega arith)
      ∙ drop-set-lt aside_places_at copied aside_at (get_or w held_at 0) (omega arith)
      ∙ copied_behind w (get_or w held_at 0 * place_long) long within)
      ∙ places_front (get_or w held_at 0) (drop places_at w) (drop (aside_places_at + get_or w held_at 0 * place_long) w) (simp length-drop (omega arith))
