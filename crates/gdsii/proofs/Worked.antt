-- The worked element, computed by the definitions: an L at (-50, 1000), layer 7, datatype 2. Assumes nothing.
--
--   worked, worked_points == its 80 bytes, its seven points
--   worked_points_lem    == the bytes are read as these points
--   worked_moved, worked_shift == its six corners at 0, and its shift
--   worked_flags     == the same with ELFLAGS and PLEX
--   cut_0, cut_9, cut_15, cut_75, cut_79 == 8, at the record cut short
--   extra_byte, extra_record == 16: bytes after ENDEL
--   long-xy          == 8: XY longer than the bytes
--   no_length, two-more, other_type, other_form == 16: BOUNDARY of another length, type or data type
--   not-closed       == 17
--   far, far_points   == a square of 65,535 at (-2147483648, 2147418112), its bytes and its five points
--   far-points, far-shift, far-moved == it is read, and moved to 0
--   too_broad        == 18: 1 nm more
use Prim.Native.Nat.{ℕ}
use mathlib.Core.Path.{◌≡◌, refl}
use mathlib.Core.List.{List, [], ◌∷◌, ◌++◌}
use lib.ListN.{take, drop, set}
use lib.IntN.{pos, negsuc}
use Rattle.figure.specs.declared.Axis.TheVariants.{X, Y}
use Rattle.figure.specs.Corners.{last}
use Rattle.refusal.specs.declared.Refusal.TheVariants.{Unclosed, Extent}
use Rattle.number.specs.Reading.{read, fault}
use Rattle.gdsii.specs.Record.{ends, wrong, pair_at, short, typed, is, required, optional, heading, layering, count_at, xy, ending, body, element}
use Rattle.gdsii.specs.Boundary.{Point, word_at, raise, along, point_at, points_from, lowest_from, highest_from, apart, unclosed, broad, numbers_of, moved, shift, bounded, boundary}

pub worked : List ℕ
worked =
    0 ∷ 4 ∷ 8 ∷ 0 ∷ 0 ∷ 6 ∷ 13 ∷ 2 ∷ 0 ∷ 7 ∷ 0 ∷ 6 ∷ 14 ∷ 2 ∷ 0 ∷ 2 ∷ 0 ∷ 60 ∷ 16 ∷ 3 ∷ 255 ∷ 255 ∷ 255 ∷ 206 ∷ 0 ∷ 0 ∷
    3 ∷ 232 ∷ 0 ∷ 0 ∷ 0 ∷ 50 ∷ 0 ∷ 0 ∷ 3 ∷ 232 ∷ 0 ∷ 0 ∷ 0 ∷ 50 ∷ 0 ∷ 0 ∷ 3 ∷ 252 ∷ 0 ∷ 0 ∷ 0 ∷ 10 ∷ 0 ∷ 0 ∷ 3 ∷ 252 ∷
    0 ∷ 0 ∷ 0 ∷ 10 ∷ 0 ∷ 0 ∷ 4 ∷ 56 ∷ 255 ∷ 255 ∷ 255 ∷ 206 ∷ 0 ∷ 0 ∷ 4 ∷ 56 ∷ 255 ∷ 255 ∷ 255 ∷ 206 ∷ 0 ∷ 0 ∷ 3 ∷
    232 ∷ 0 ∷ 4 ∷ 17 ∷ 0 ∷ []

pub worked_points : List Point
worked_points =
    record { x = 2147483598; y = 2147484648 }
    ∷ record { x = 2147483698; y = 2147484648 }
    ∷ record { x = 2147483698; y = 2147484668 }
    ∷ record { x = 2147483658; y = 2147484668 }
    ∷ record { x = 2147483658; y = 2147484728 }
    ∷ record { x = 2147483598; y = 2147484728 }
    ∷ record { x = 2147483598; y = 2147484648 }
    ∷ []

pub worked_points_lem : boundary worked ≡ read worked_points 76
unfolding worked worked_points element heading layering body xy ending required optional is typed short pair_at count_at points_from point_at word_at raise bounded boundary unclosed apart broad lowest_from highest_from along last
worked_points_lem = refl

pub worked_moved : moved worked_points ≡ 0 ∷ 0 ∷ 100 ∷ 0 ∷ 100 ∷ 20 ∷ 60 ∷ 20 ∷ 60 ∷ 80 ∷ 0 ∷ 80 ∷ []
unfolding worked_points moved numbers_of lowest_from along
worked_moved = refl

pub worked_shift : (shift X worked_points ≡ negsuc 49) × (shift Y worked_points ≡ pos 1000)
unfolding worked_points lowest_from along
worked_shift = (refl, refl)

pub worked_flags : boundary (take 4 worked ++ (0 ∷ 6 ∷ 38 ∷ 1 ∷ 0 ∷ 1 ∷ []) ++ (0 ∷ 8 ∷ 47 ∷ 3 ∷ 0 ∷ 0 ∷ 0 ∷ 3 ∷ []) ++ drop 4 worked) ≡ read worked_points 90
unfolding worked worked_points element heading layering body xy ending required optional is typed short pair_at count_at points_from point_at word_at raise bounded boundary unclosed apart broad lowest_from highest_from along last
worked_flags = refl

pub cut_0 : boundary (take 0 worked) ≡ ends 0
unfolding worked worked_points element heading layering body xy ending required optional is typed short pair_at count_at points_from point_at word_at raise bounded boundary unclosed apart broad lowest_from highest_from along last
cut_0 = refl

pub cut_9 : boundary (take 9 worked) ≡ ends 4
unfolding worked worked_points element heading layering body xy ending required optional is typed short pair_at count_at points_from point_at word_at raise bounded boundary unclosed apart broad lowest_from highest_from along last
cut_9 = refl

pub cut_15 : boundary (take 15 worked) ≡ ends 10
unfolding worked worked_points element heading layering body xy ending required optional is typed short pair_at count_at points_from point_at word_at raise bounded boundary unclosed apart broad lowest_from highest_from along last
cut_15 = refl

pub cut_75 : boundary (take 75 worked) ≡ ends 16
unfolding worked worked_points element heading layering body xy ending required optional is typed short pair_at count_at points_from point_at word_at raise bounded boundary unclosed apart broad lowest_from highest_from along last
cut_75 = refl

pub cut_79 : boundary (take 79 worked) ≡ ends 76
unfolding worked worked_points element heading layering body xy ending required optional is typed short pair_at count_at points_from point_at word_at raise bounded boundary unclosed apart broad lowest_from highest_from along last
cut_79 = refl

pub extra_byte : boundary (worked ++ (0 ∷ [])) ≡ wrong
unfolding worked worked_points element heading layering body xy ending required optional is typed short pair_at count_at points_from point_at word_at raise bounded boundary unclosed apart broad lowest_from highest_from along last
extra_byte = refl

pub extra_record : boundary (worked ++ (0 ∷ 4 ∷ 8 ∷ 0 ∷ [])) ≡ wrong
unfolding worked worked_points element heading layering body xy ending required optional is typed short pair_at count_at points_from point_at word_at raise bounded boundary unclosed apart broad lowest_from highest_from along last
extra_record = refl

pub long-xy : boundary (set worked 16 127) ≡ ends 16
unfolding worked worked_points element heading layering body xy ending required optional is typed short pair_at count_at points_from point_at word_at raise bounded boundary unclosed apart broad lowest_from highest_from along last
long-xy = refl

pub no_length : boundary (set worked 1 0) ≡ wrong
unfolding worked worked_points element heading layering body xy ending required optional is typed short pair_at count_at points_from point_at word_at raise bounded boundary unclosed apart broad lowest_from highest_from along last
no_length = refl

pub two-more : boundary (set worked 1 6) ≡ wrong
unfolding worked worked_points element heading layering body xy ending required optional is typed short pair_at count_at points_from point_at word_at raise bounded boundary unclosed apart broad lowest_from highest_from along last
two-more = refl

pub other_type : boundary (set worked 2 9) ≡ wrong
unfolding worked worked_points element heading layering body xy ending required optional is typed short pair_at count_at points_from point_at word_at raise bounded boundary unclosed apart broad lowest_from highest_from along last
other_type = refl

pub other_form : boundary (set worked 3 1) ≡ wrong
unfolding worked worked_points element heading layering body xy ending required optional is typed short pair_at count_at points_from point_at word_at raise bounded boundary unclosed apart broad lowest_from highest_from along last
other_form = refl

pub not-closed : boundary (set worked 75 233) ≡ fault Unclosed 0
unfolding worked worked_points element heading layering body xy ending required optional is typed short pair_at count_at points_from point_at word_at raise bounded boundary unclosed apart broad lowest_from highest_from along last
not-closed = refl

-- 65,535 each way, in the far corner of what a coordinate can be
pub far : List ℕ
far =
    take 16 worked
    ++ (0 ∷ 44 ∷ 16 ∷ 3 ∷ 128 ∷ 0 ∷ 0 ∷ 0 ∷ 127 ∷ 255 ∷ 0 ∷ 0 ∷ 128 ∷ 0 ∷ 255 ∷ 255 ∷ 127 ∷ 255 ∷ 0 ∷ 0 ∷ 128 ∷ 0 ∷ 255 ∷ 255 ∷
    127 ∷ 255 ∷ 255 ∷ 255 ∷ 128 ∷ 0 ∷ 0 ∷ 0 ∷ 127 ∷ 255 ∷ 255 ∷ 255 ∷ 128 ∷ 0 ∷ 0 ∷ 0 ∷ 127 ∷ 255 ∷ 0 ∷ 0 ∷ 0 ∷ 4 ∷ 17 ∷ 0 ∷ [])

pub far_points : List Point
far_points =
    record { x = 0; y = 4294901760 }
    ∷ record { x = 65535; y = 4294901760 }
    ∷ record { x = 65535; y = 4294967295 }
    ∷ record { x = 0; y = 4294967295 }
    ∷ record { x = 0; y = 4294901760 }
    ∷ []

pub far-points : boundary far ≡ read far_points 60
unfolding worked far far_points element heading layering body xy ending required optional is typed short pair_at count_at points_from point_at word_at raise bounded boundary unclosed apart broad lowest_from highest_from along last
far-points = refl

pub far-shift : (shift X far_points ≡ negsuc 2147483647) × (shift Y far_points ≡ pos 2147418112)
unfolding far_points lowest_from along
far-shift = (refl, refl)

pub far-moved : moved far_points ≡ 0 ∷ 0 ∷ 65535 ∷ 0 ∷ 65535 ∷ 65535 ∷ 0 ∷ 65535 ∷ []
unfolding far_points moved numbers_of lowest_from along
far-moved = refl

-- its right side 1 nm further: x from 80 01 00 00
pub too_broad : boundary (set (set (set (set (set (set far 29 1) 30 0) 31 0) 37 1) 38 0) 39 0) ≡ fault Extent 0
unfolding worked far far_points element heading layering body xy ending required optional is typed short pair_at count_at points_from point_at word_at raise bounded boundary unclosed apart broad lowest_from highest_from along last
too_broad = refl
