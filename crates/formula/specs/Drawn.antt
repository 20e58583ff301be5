-- Drawn terms and texts, by evaluation: written, read with further brackets, and read after a small change; the answers are an independent program's.
use Rattle.std.specs.Prelude.{◌≡◌, refl, List, ◌∷◌, ◌++◌, ℕ}
use Rattle.spec.specs.Bytes.{text, ok, refused}
use Rattle.formula.specs.Card.{lit, two, many, marked, none, also, spell, write}
use Rattle.formula.specs.Lexer.{read_text}
use Rattle.formula.specs.Cases.{entry}

abbrev t0 : List ℕ
t0 = 255 ∷ 0 ∷ 0 ∷ 0 ∷ 255 ∷ 0 ∷ 0 ∷ 0 ∷ 0 ∷ entry "/" 3 ++ (entry "abcdefgh" 3 ++ (entry ">" 2 ++ (entry "b" 1)))

drawn0 : (spell t0 (write t0 0 (two 2 (lit 0 10) (two 0 (lit 1 10) (lit 0 0)))) ≡ text "10#0 > 10#1 / 0#0")
    × (read_text t0 (text "(10#0 > (10#1) / (0#0))") ≡ ok (two 2 (lit 0 10) (two 0 (lit 1 10) (lit 0 0))))
    × (read_text t0 (text "10#0 > 10;1 / -#0") ≡ refused 17)
    × (read_text t0 (text "10 #0 > 10#1 / 0#0") ≡ refused 17)
    × (spell t0 (write t0 0 (two 3 (two 0 (lit 1 10) (two 3 (lit 0 10) (lit 63 4294967295))) (two 0 (many 3 (also (lit 0 0) (also (many 2 none) (also (lit 10 10) none)))) (many 2 none)))) ≡ text "10#1 / (10#0 b 4294967295#63) b b[0#0; >[]; 10#10] / >[]")
    × (read_text t0 (text "10#1 / ((10#0) b 4294967295#63) b b[0#0; >[]; 10#10] / (>[])") ≡ ok (two 3 (two 0 (lit 1 10) (two 3 (lit 0 10) (lit 63 4294967295))) (two 0 (many 3 (also (lit 0 0) (also (many 2 none) (also (lit 10 10) none)))) (many 2 none))))
    × (read_text t0 (text "10#1 / (10#0 b 4294967295]63) b b[0#0; >[]; 10#10] / >[#") ≡ refused 17)
    × (read_text t0 (text "10#1 / (100 b 4294967295#03) b b[0#6; >[]; 10#10] / >[]") ≡ refused 17)
    × (spell t0 (write t0 0 (marked (also (marked (also (many 2 none) (also (lit 10 7) none))) (also (two 1 (lit 1 0) (lit 1 10)) none)))) ≡ text "{{>[] | 7#10} | 0#1 abcdefgh 10#1}")
    × (read_text t0 (text "{{>[] | 7#10} | (0#1 abcdefgh (10#1))}") ≡ ok (marked (also (marked (also (many 2 none) (also (lit 10 7) none))) (also (two 1 (lit 1 0) (lit 1 10)) none))))
    × (read_text t0 (text "{{>[] | 7#10} | 0#1 abcde}gh 10#)1f") ≡ refused 17)
    × (read_text t0 (text "{{>|] f 7#10} | 0#1 abcde[gh 10#1}") ≡ refused 17)
    × (spell t0 (write t0 0 (two 3 (lit 63 0) (two 0 (many 0 none) (lit 1 4294967295)))) ≡ text "0#63 b /[] / 4294967295#1")
    × (read_text t0 (text "(0#63) b /[] / (4294967295#1)") ≡ ok (two 3 (lit 63 0) (two 0 (many 0 none) (lit 1 4294967295))))
    × (read_text t0 (text "0#63 b /[] / 4924967295#1") ≡ refused 17)
    × (read_text t0 (text "0#{3 b /[] / 42949672951") ≡ refused 17)
unfolding entry read_text spell text write
drawn0 = (refl, refl, refl, refl, refl, refl, refl, refl, refl, refl, refl, refl, refl, refl, refl, refl)

abbrev t1 : List ℕ
t1 = 0 ∷ 1 ∷ 1 ∷ 0 ∷ 1 ∷ 0 ∷ 1 ∷ 0 ∷ 0 ∷ entry "x" 4 ++ (entry "a" 7 ++ (entry ">" 4 ++ (entry "ba" 4)))

drawn1 : (spell t1 (write t1 0 (two 0 (many 3 none) (two 3 (many 2 (also (many 2 none) (also (lit 0 7) (also (lit 63 7) (also (lit 0 4294967295) none))))) (marked (also (many 0 none) (also (many 0 none) none)))))) ≡ text "ba[] x (>[>[]; 7#0; 7#63; 4294967295#0] ba {x[] | x[]})")
    × (read_text t1 (text "(ba[]) x (>[>[]; 7#0; (7#63); 4294967295#0] ba {(x[]) | x[]})") ≡ ok (two 0 (many 3 none) (two 3 (many 2 (also (many 2 none) (also (lit 0 7) (also (lit 63 7) (also (lit 0 4294967295) none))))) (marked (also (many 0 none) (also (many 0 none) none))))))
    × (read_text t1 (text "ba[]   (>[{>[]; 7#0; 7#63; 4294967295#0] ba {x[]x| x[]})") ≡ refused 17)
    × (read_text t1 (text "ba[] x (>[>[]; 7#0; 7#63; 4294967295#-0] ba {x[] | x[]})") ≡ refused 17)
    × (spell t1 (write t1 0 (two 2 (two 0 (lit 0 7) (lit 1 7)) (lit 1 10))) ≡ text "7#0 x 7#1 > 10#1")
    × (read_text t1 (text "((7#0) x 7#1 > 10#1)") ≡ ok (two 2 (two 0 (lit 0 7) (lit 1 7)) (lit 1 10)))
    × (read_text t1 (text "71#0 x 7#1 > 10#1") ≡ ok (two 2 (two 0 (lit 0 71) (lit 1 7)) (lit 1 10)))
    × (read_text t1 (text "7#0 x 7#1 > 10#1a") ≡ refused 17)
    × (spell t1 (write t1 0 (marked (also (lit 1 7) (also (lit 0 0) none)))) ≡ text "{7#1 | 0#0}")
    × (read_text t1 (text "{(7#1) | (0#0)}") ≡ ok (marked (also (lit 1 7) (also (lit 0 0) none))))
    × (read_text t1 (text "{7# | 00}") ≡ refused 17)
    × (read_text t1 (text "]7#1 | 0#0}") ≡ refused 17)
    × (spell t1 (write t1 0 (two 1 (many 3 (also (lit 1 10) (also (lit 63 0) (also (lit 10 4294967295) (also (many 3 none) none))))) (two 0 (two 0 (lit 63 0) (many 1 none)) (lit 1 4294967295)))) ≡ text "ba[10#1; 0#63; 4294967295#10; ba[]] a (0#63 x a[] x 4294967295#1)")
    × (read_text t1 (text "(ba[10#1; 0#63; (4294967295#10); (ba[])] a (((0#63) x a[] x 4294967295#1)))") ≡ ok (two 1 (many 3 (also (lit 1 10) (also (lit 63 0) (also (lit 10 4294967295) (also (many 3 none) none))))) (two 0 (two 0 (lit 63 0) (many 1 none)) (lit 1 4294967295))))
    × (read_text t1 (text "ba[10#1;  #63; 429496725#10; ba[]]0a (0#63 x a[] x 4294967295#1)") ≡ refused 17)
    × (read_text t1 (text "ba[10#1; 0#63; 4294967295#10; ba[] a (0#63 x a[] x 4294967295#1)") ≡ refused 17)
unfolding entry read_text spell text write
drawn1 = (refl, refl, refl, refl, refl, refl, refl, refl, refl, refl, refl, refl, refl, refl, refl, refl)

abbrev t2 : List ℕ
t2 = 0 ∷ 0 ∷ 0 ∷ 1 ∷ 0 ∷ 0 ∷ 0 ∷ 1 ∷ 1 ∷ entry "x" 1 ++ (entry "ab" 2)

drawn2 : (spell t2 (write t2 0 (two 1 (two 1 (lit 0 7) (lit 1 4294967295)) (two 1 (two 1 (lit 1 10) (lit 1 4294967295)) (many 0 none)))) ≡ text "7#0 ab 4294967295#1 ab (10#1 ab 4294967295#1 ab x[])")
    × (read_text t2 (text "7#0 ab (4294967295#1) ab ((10#1 ab 4294967295#1 ab x[]))") ≡ ok (two 1 (two 1 (lit 0 7) (lit 1 4294967295)) (two 1 (two 1 (lit 1 10) (lit 1 4294967295)) (many 0 none))))
    × (read_text t2 (text "7#0 ab 4294967295#1 ab (10#1 ab #29496729541 ab x[])") ≡ refused 17)
    × (read_text t2 (text "7#0 ab 4294967295#1 ab (10#1 b 4294967295#1  ab x[])") ≡ refused 17)
    × (spell t2 (write t2 0 (two 0 (two 1 (lit 63 7) (lit 0 10)) (lit 10 10))) ≡ text "7#63 ab 10#0 x 10#10")
    × (read_text t2 (text "((7#63 ab 10#0) x (10#10))") ≡ ok (two 0 (two 1 (lit 63 7) (lit 0 10)) (lit 10 10)))
    × (read_text t2 (text "7#63 ab 0#0 x 10#10") ≡ ok (two 0 (two 1 (lit 63 7) (lit 0 0)) (lit 10 10)))
    × (read_text t2 (text "7#63 ab 10#0) x 10#10") ≡ refused 17)
    × (spell t2 (write t2 0 (two 0 (two 1 (many 1 none) (two 0 (many 1 none) (many 0 none))) (marked (also (many 0 none) (also (lit 0 7) none))))) ≡ text "ab[] ab (ab[] x x[]) x {x[] | 7#0}")
    × (read_text t2 (text "(ab[] ab (ab[] x (x[])) x {(x[]) | 7#0})") ≡ ok (two 0 (two 1 (many 1 none) (two 0 (many 1 none) (many 0 none))) (marked (also (many 0 none) (also (lit 0 7) none)))))
    × (read_text t2 (text "xb[] ab (ab[] x a[]) x {x[] | 7#0}") ≡ refused 17)
    × (read_text t2 (text "ab[] ab (ab[] x x[]) x {x[] | 7#") ≡ refused 17)
    × (spell t2 (write t2 0 (many 1 (also (many 1 none) (also (lit 1 7) (also (many 1 none) none))))) ≡ text "ab[ab[]; 7#1; ab[]]")
    × (read_text t2 (text "ab[ab[]; 7#1; ab[]]") ≡ ok (many 1 (also (many 1 none) (also (lit 1 7) (also (many 1 none) none)))))
    × (read_text t2 (text "ab{[ab[]; 7#1; ab[]") ≡ refused 17)
    × (read_text t2 (text "ab[ab[]; {#1; a[]]") ≡ refused 17)
unfolding entry read_text spell text write
drawn2 = (refl, refl, refl, refl, refl, refl, refl, refl, refl, refl, refl, refl, refl, refl, refl, refl)

abbrev t3 : List ℕ
t3 = 0 ∷ 1 ∷ 0 ∷ 255 ∷ 0 ∷ 1 ∷ 255 ∷ 0 ∷ 255 ∷ entry "+" 2 ++ (entry "a" 2)

drawn3 : (spell t3 (write t3 0 (marked (also (lit 0 7) (also (many 1 none) none)))) ≡ text "{7#0 | a[]}")
    × (read_text t3 (text "{7#0 | (a[])}") ≡ ok (marked (also (lit 0 7) (also (many 1 none) none))))
    × (read_text t3 (text "{7#* | a[]") ≡ refused 17)
    × (read_text t3 (text "#7{0 | []}") ≡ refused 17)
    × (spell t3 (write t3 0 (two 1 (two 0 (many 0 none) (lit 63 4294967295)) (two 0 (many 1 none) (two 1 (lit 0 10) (many 1 none))))) ≡ text "(+[] + 4294967295#63) a a[] + 10#0 a a[]")
    × (read_text t3 (text "(+[] + 4294967295#63) a (a[] + (10#0 a a[]))") ≡ ok (two 1 (two 0 (many 0 none) (lit 63 4294967295)) (two 0 (many 1 none) (two 1 (lit 0 10) (many 1 none)))))
    × (read_text t3 (text "(+[] + 4294967295#63# a+ a[] + 10)0 a a[]") ≡ refused 17)
    × (read_text t3 (text "(+[] + 4294967295#63) a a[] + 10#0 a a[]") ≡ ok (two 1 (two 0 (many 0 none) (lit 63 4294967295)) (two 0 (many 1 none) (two 1 (lit 0 10) (many 1 none)))))
    × (spell t3 (write t3 0 (many 1 (also (two 1 (lit 1 7) (two 1 (lit 63 4294967295) (lit 63 4294967295))) none))) ≡ text "a[7#1 a 4294967295#63 a 4294967295#63]")
    × (read_text t3 (text "(a[(7#1 a 4294967295#63 a (4294967295#63))])") ≡ ok (many 1 (also (two 1 (lit 1 7) (two 1 (lit 63 4294967295) (lit 63 4294967295))) none)))
    × (read_text t3 (text "a[7#1 a 429497295#63 a 4294967295#63]") ≡ ok (many 1 (also (two 1 (lit 1 7) (two 1 (lit 63 429497295) (lit 63 4294967295))) none)))
    × (read_text t3 (text "a[7#1 a 4294967295#63 a 42940967295#63]") ≡ refused 17)
    × (spell t3 (write t3 0 (two 0 (lit 0 10) (two 0 (marked (also (lit 1 4294967295) (also (lit 0 4294967295) none))) (two 0 (lit 1 0) (lit 1 4294967295))))) ≡ text "10#0 + {4294967295#1 | 4294967295#0} + 0#1 + 4294967295#1")
    × (read_text t3 (text "(10#0) + {4294967295#1 | 4294967295#0} + 0#1 + 4294967295#1") ≡ ok (two 0 (lit 0 10) (two 0 (marked (also (lit 1 4294967295) (also (lit 0 4294967295) none))) (two 0 (lit 1 0) (lit 1 4294967295)))))
    × (read_text t3 (text " 0#01+ {4294967295#1 | 429496729520} + 0#1 + 4294967#95#1") ≡ refused 17)
    × (read_text t3 (text "10#0 + {429496695#1 | 4294967295#0} + 0#1 + 4294927295#1") ≡ ok (two 0 (lit 0 10) (two 0 (marked (also (lit 1 429496695) (also (lit 0 4294967295) none))) (two 0 (lit 1 0) (lit 1 4294927295)))))
unfolding entry read_text spell text write
drawn3 = (refl, refl, refl, refl, refl, refl, refl, refl, refl, refl, refl, refl, refl, refl, refl, refl)

abbrev t4 : List ℕ
t4 = 1 ∷ 255 ∷ 0 ∷ 0 ∷ 0 ∷ 1 ∷ 0 ∷ 255 ∷ 1 ∷ entry "/" 1 ++ (entry "<" 1 ++ (entry "x" 1))

drawn4 : (spell t4 (write t4 0 (two 1 (marked (also (two 2 (lit 10 10) (lit 1 4294967295)) (also (marked (also (lit 1 4294967295) (also (many 0 none) none))) none))) (two 2 (lit 10 7) (lit 63 0)))) ≡ text "{10#10 x 4294967295#1 | {4294967295#1 | /[]}} < 7#10 x 0#63")
    × (read_text t4 (text "{10#10 x 4294967295#1 | {4294967295#1 | /[]}} < 7#10 x 0#63") ≡ ok (two 1 (marked (also (two 2 (lit 10 10) (lit 1 4294967295)) (also (marked (also (lit 1 4294967295) (also (many 0 none) none))) none))) (two 2 (lit 10 7) (lit 63 0))))
    × (read_text t4 (text "{10#10 x 4294967295#1 | {4694967295#1 | /[]}} < 7#10 x 0#;23") ≡ refused 17)
    × (read_text t4 (text "{10#10 x 4294967295#1 | {4294967295#1 | /[]}} < 7#10 x 0#632") ≡ refused 17)
    × (spell t4 (write t4 0 (two 1 (lit 0 7) (lit 63 0))) ≡ text "7#0 < 0#63")
    × (read_text t4 (text "7#0 < 0#63") ≡ ok (two 1 (lit 0 7) (lit 63 0)))
    × (read_text t4 (text "7#0 < 0#63a") ≡ refused 17)
    × (read_text t4 (text "7#0  0#63") ≡ refused 17)
    × (spell t4 (write t4 0 (two 0 (lit 63 4294967295) (marked (also (two 1 (lit 63 4294967295) (lit 10 7)) (also (two 0 (lit 10 0) (lit 1 4294967295)) none))))) ≡ text "4294967295#63 / {4294967295#63 < 7#10 | 0#10 / 4294967295#1}")
    × (read_text t4 (text "4294967295#63 / {4294967295#63 < 7#10 | 0#10 / (4294967295#1)}") ≡ ok (two 0 (lit 63 4294967295) (marked (also (two 1 (lit 63 4294967295) (lit 10 7)) (also (two 0 (lit 10 0) (lit 1 4294967295)) none)))))
    × (read_text t4 (text "4294967295#63 / {429496#295#63 < 7#10 | 0#10 / 4294967295#1}") ≡ refused 17)
    × (read_text t4 (text "4294967295#63 / 4294967295#63 < 7#10 | 0#10 / 4294967295#1#") ≡ refused 17)
    × (spell t4 (write t4 0 (two 2 (marked (also (lit 1 0) (also (lit 10 4294967295) none))) (many 1 none))) ≡ text "{0#1 | 4294967295#10} x <[]")
    × (read_text t4 (text "{0#1 | 4294967295#10} x <[]") ≡ ok (two 2 (marked (also (lit 1 0) (also (lit 10 4294967295) none))) (many 1 none)))
    × (read_text t4 (text "{0#1 | 4294967295#1;0} x <[0") ≡ refused 17)
    × (read_text t4 (text "{0#1 | 42949}67295#10} x <[]") ≡ refused 17)
unfolding entry read_text spell text write
drawn4 = (refl, refl, refl, refl, refl, refl, refl, refl, refl, refl, refl, refl, refl, refl, refl, refl)

abbrev t5 : List ℕ
t5 = 0 ∷ 255 ∷ 255 ∷ 255 ∷ 0 ∷ 0 ∷ 0 ∷ 255 ∷ 255 ∷ entry "*" 1 ++ (entry "ba" 1 ++ (entry "x" 2))

drawn5 : (spell t5 (write t5 0 (two 1 (two 0 (lit 1 7) (lit 63 7)) (two 1 (many 2 none) (lit 0 4294967295)))) ≡ text "7#1 * 7#63 ba (x[] ba 4294967295#0)")
    × (read_text t5 (text "7#1 * 7#63 ba (x[] ba 4294967295#0)") ≡ ok (two 1 (two 0 (lit 1 7) (lit 63 7)) (two 1 (many 2 none) (lit 0 4294967295))))
    × (read_text t5 (text "7#1 * 7#63 ba ]x[] ba 4294967295#0)") ≡ refused 17)
    × (read_text t5 (text "7#1 * 7#63 b[a (x[] ba 4294967295#0)") ≡ refused 17)
    × (spell t5 (write t5 0 (two 1 (lit 0 0) (two 0 (two 0 (lit 63 0) (lit 1 0)) (many 1 none)))) ≡ text "0#0 ba (0#63 * 0#1 * ba[])")
    × (read_text t5 (text "(0#0 ba ((0#63 * 0#1) * ba[]))") ≡ ok (two 1 (lit 0 0) (two 0 (two 0 (lit 63 0) (lit 1 0)) (many 1 none))))
    × (read_text t5 (text "0#0 ba (0#63 * 1#0 * ba[])") ≡ ok (two 1 (lit 0 0) (two 0 (two 0 (lit 63 0) (lit 0 1)) (many 1 none))))
    × (read_text t5 (text "0#0)ba (0#63 * 0#1 * ba[] ") ≡ refused 17)
    × (spell t5 (write t5 0 (two 2 (two 1 (lit 10 10) (lit 10 0)) (two 1 (two 2 (lit 10 7) (many 1 none)) (many 1 none)))) ≡ text "(10#10 ba 0#10) x (7#10 x ba[] ba ba[])")
    × (read_text t5 (text "(10#10 ba (0#10)) x (7#10 x ba[] ba ba[])") ≡ ok (two 2 (two 1 (lit 10 10) (lit 10 0)) (two 1 (two 2 (lit 10 7) (many 1 none)) (many 1 none))))
    × (read_text t5 (text "(10#10 ba 0#10) x (7#10 x[ ba[] ba ba[])") ≡ refused 17)
    × (read_text t5 (text "(10#10 ba1a0#10) x (7#10 x ba[] ba ba[])") ≡ refused 17)
    × (spell t5 (write t5 0 (marked (also (lit 1 10) (also (lit 0 4294967295) none)))) ≡ text "{10#1 | 4294967295#0}")
    × (read_text t5 (text "{10#1 | (4294967295#0)}") ≡ ok (marked (also (lit 1 10) (also (lit 0 4294967295) none))))
    × (read_text t5 (text "{10#1 | 4294967295#};") ≡ refused 17)
    × (read_text t5 (text "{210#1 | 4294967}295#0}") ≡ refused 17)
unfolding entry read_text spell text write
drawn5 = (refl, refl, refl, refl, refl, refl, refl, refl, refl, refl, refl, refl, refl, refl, refl, refl)

abbrev t6 : List ℕ
t6 = 255 ∷ 1 ∷ 255 ∷ 1 ∷ 0 ∷ 255 ∷ 255 ∷ 1 ∷ 255 ∷ entry "ab" 9 ++ (entry "MAX" 8 ++ (entry "x" 3))

drawn6 : (spell t6 (write t6 0 (two 1 (lit 10 7) (many 1 none))) ≡ text "7#10 MAX MAX[]")
    × (read_text t6 (text "7#10 MAX MAX[]") ≡ ok (two 1 (lit 10 7) (many 1 none)))
    × (read_text t6 (text "7M10 #AX MAX[]") ≡ refused 17)
    × (read_text t6 (text "7#10 MAX MX[]") ≡ refused 17)
    × (spell t6 (write t6 0 (two 2 (two 2 (many 2 none) (many 0 none)) (lit 0 0))) ≡ text "(x[] x ab[]) x 0#0")
    × (read_text t6 (text "(x[] x ab[]) x 0#0") ≡ ok (two 2 (two 2 (many 2 none) (many 0 none)) (lit 0 0)))
    × (read_text t6 (text "(x[] x ab[] x 0#0") ≡ refused 17)
    × (read_text t6 (text "(x[]bx a [#]) x 0#0") ≡ refused 17)
    × (spell t6 (write t6 0 (marked (also (two 2 (two 1 (lit 1 4294967295) (lit 63 10)) (many 0 none)) (also (many 0 (also (many 0 none) (also (lit 63 4294967295) (also (lit 0 10) none)))) none)))) ≡ text "{4294967295#1 MAX 10#63 x ab[] | ab[ab[]; 4294967295#63; 10#0]}")
    × (read_text t6 (text "({((4294967295#1) MAX 10#63 x ab[]) | ab[ab[]; (4294967295#63); 10#0]})") ≡ ok (marked (also (two 2 (two 1 (lit 1 4294967295) (lit 63 10)) (many 0 none)) (also (many 0 (also (many 0 none) (also (lit 63 4294967295) (also (lit 0 10) none)))) none))))
    × (read_text t6 (text "{429496729-#1 MAX 10#6)3 x ab[] | ab[ab[]; 4294967295#63; 10#0]}") ≡ refused 17)
    × (read_text t6 (text "{429967295#1 MAX 10#63 x ab[] | ab[ab[0; 4294967295#63; 10#0]}") ≡ refused 17)
    × (spell t6 (write t6 0 (two 1 (two 0 (lit 0 0) (lit 63 10)) (lit 63 7))) ≡ text "0#0 ab 10#63 MAX 7#63")
    × (read_text t6 (text "(0#0 ab (10#63)) MAX 7#63") ≡ ok (two 1 (two 0 (lit 0 0) (lit 63 10)) (lit 63 7)))
    × (read_text t6 (text "0#0 ab 10#63 MAX 7#*3") ≡ refused 17)
    × (read_text t6 (text ";0#0 ab 10#63 MAX 7#63") ≡ refused 17)
unfolding entry read_text spell text write
drawn6 = (refl, refl, refl, refl, refl, refl, refl, refl, refl, refl, refl, refl, refl, refl, refl, refl)

abbrev t7 : List ℕ
t7 = 255 ∷ 255 ∷ 0 ∷ 0 ∷ 0 ∷ 0 ∷ 0 ∷ 0 ∷ 255 ∷ entry "/" 3 ++ (entry "MAX" 4 ++ (entry ">" 3))

drawn7 : (spell t7 (write t7 0 (marked (also (lit 1 7) (also (lit 10 7) none)))) ≡ text "{7#1 | 7#10}")
    × (read_text t7 (text "({7#1 | 7#10})") ≡ ok (marked (also (lit 1 7) (also (lit 10 7) none))))
    × (read_text t7 (text "{7#1 | 701#") ≡ refused 17)
    × (read_text t7 (text "{7#1 |}7#10 ") ≡ refused 17)
    × (spell t7 (write t7 0 (two 0 (two 1 (lit 0 0) (two 2 (two 2 (many 2 none) (many 1 none)) (lit 1 0))) (many 0 none))) ≡ text "0#0 MAX (>[] > MAX[] > 0#1) / /[]")
    × (read_text t7 (text "0#0 MAX ((>[] > (MAX[]) > 0#1)) / /[]") ≡ ok (two 0 (two 1 (lit 0 0) (two 2 (two 2 (many 2 none) (many 1 none)) (lit 1 0))) (many 0 none)))
    × (read_text t7 (text "/#0 MAX (>[] > 2AX[] > 0#1) / 0[]") ≡ refused 17)
    × (read_text t7 (text "0#0 MAX (>[] >]MAX[  > 0#1) / /[]") ≡ refused 17)
    × (spell t7 (write t7 0 (two 2 (many 0 none) (two 0 (lit 1 10) (many 2 none)))) ≡ text "/[] > (10#1 / >[])")
    × (read_text t7 (text "/[] > (10#1 / (>[]))") ≡ ok (two 2 (many 0 none) (two 0 (lit 1 10) (many 2 none))))
    × (read_text t7 (text "/] > (10#1 / >[])") ≡ refused 17)
    × (read_text t7 (text "/[] > b10#1 / >[])") ≡ refused 17)
    × (spell t7 (write t7 0 (marked (also (lit 1 7) (also (lit 0 0) none)))) ≡ text "{7#1 | 0#0}")
    × (read_text t7 (text "({(7#1) | 0#0})") ≡ ok (marked (also (lit 1 7) (also (lit 0 0) none))))
    × (read_text t7 (text "{71 | 0#0") ≡ refused 17)
    × (read_text t7 (text "{7#1 0 0#0}") ≡ refused 17)
unfolding entry read_text spell text write
drawn7 = (refl, refl, refl, refl, refl, refl, refl, refl, refl, refl, refl, refl, refl, refl, refl, refl)

abbrev t8 : List ℕ
t8 = 0 ∷ 255 ∷ 0 ∷ 1 ∷ 255 ∷ 0 ∷ 0 ∷ 0 ∷ 1 ∷ entry "a" 1 ++ (entry "ab" 2 ++ (entry "-" 1 ++ (entry "/" 3 ++ (entry "b" 1))))

drawn8 : (spell t8 (write t8 0 (many 0 (also (two 3 (lit 1 4294967295) (two 4 (marked (also (many 1 none) (also (lit 0 0) none))) (lit 0 10))) none))) ≡ text "a[4294967295#1 / ({ab[] | 0#0} b 10#0)]")
    × (read_text t8 (text "a[4294967295#1 / (({ab[] | 0#0}) b (10#0))]") ≡ ok (many 0 (also (two 3 (lit 1 4294967295) (two 4 (marked (also (many 1 none) (also (lit 0 0) none))) (lit 0 10))) none)))
    × (read_text t8 (text "a[4294967295#  / ({ab[] | 0#0} b 10#0)]") ≡ refused 17)
    × (read_text t8 (text "a[4294967295#1 / ({ab[] ;| 0#0} b01 #0)]") ≡ refused 17)
    × (spell t8 (write t8 0 (two 2 (lit 1 4294967295) (two 2 (two 2 (two 2 (lit 1 7) (lit 1 7)) (many 2 none)) (lit 63 7)))) ≡ text "4294967295#1 - (7#1 - 7#1 - -[] - 7#63)")
    × (read_text t8 (text "4294967295#1 - ((7#1 - 7#1) - (-[]) - 7#63)") ≡ ok (two 2 (lit 1 4294967295) (two 2 (two 2 (two 2 (lit 1 7) (lit 1 7)) (many 2 none)) (lit 63 7))))
    × (read_text t8 (text "4294967295#1 - (7#1 - 7#1 - -[] - 7#63)") ≡ ok (two 2 (lit 1 4294967295) (two 2 (two 2 (two 2 (lit 1 7) (lit 1 7)) (many 2 none)) (lit 63 7))))
    × (read_text t8 (text "429496]7295#1 - (7#1 - 7#1 -#-[] - 7#63)") ≡ refused 17)
    × (spell t8 (write t8 0 (two 3 (two 3 (lit 63 4294967295) (lit 63 4294967295)) (two 3 (many 4 none) (many 3 none)))) ≡ text "4294967295#63 / 4294967295#63 / (b[] / /[])")
    × (read_text t8 (text "((4294967295#63) / (4294967295#63)) / (((b[]) / (/[])))") ≡ ok (two 3 (two 3 (lit 63 4294967295) (lit 63 4294967295)) (two 3 (many 4 none) (many 3 none))))
    × (read_text t8 (text "4294967295#63 / 4294967295#63 / (b[] / /[]])") ≡ refused 17)
    × (read_text t8 (text "4294967295#63 / 929446729563 / (b[] / /[])") ≡ refused 17)
    × (spell t8 (write t8 0 (many 1 (also (lit 10 4294967295) (also (lit 10 7) (also (many 2 none) (also (many 3 none) none)))))) ≡ text "ab[4294967295#10; 7#10; -[]; /[]]")
    × (read_text t8 (text "ab[4294967295#10; 7#10; -[]; (/[])]") ≡ ok (many 1 (also (lit 10 4294967295) (also (lit 10 7) (also (many 2 none) (also (many 3 none) none))))))
    × (read_text t8 (text "ab[429496729a5#10; 7#10; -[]; /[]]") ≡ refused 17)
    × (read_text t8 (text "ab[4294967295#10; 7#10; -[]; [a]]") ≡ refused 17)
unfolding entry read_text spell text write
drawn8 = (refl, refl, refl, refl, refl, refl, refl, refl, refl, refl, refl, refl, refl, refl, refl, refl)

abbrev t9 : List ℕ
t9 = 1 ∷ 0 ∷ 1 ∷ 1 ∷ 255 ∷ 255 ∷ 0 ∷ 0 ∷ 0 ∷ entry "<" 7 ++ (entry "+" 7)

drawn9 : (spell t9 (write t9 0 (two 0 (lit 10 7) (marked (also (lit 1 7) (also (many 0 none) none))))) ≡ text "7#10 < {7#1 | <[]}")
    × (read_text t9 (text "(7#10 < {(7#1) | (<[])})") ≡ ok (two 0 (lit 10 7) (marked (also (lit 1 7) (also (many 0 none) none)))))
    × (read_text t9 (text "7#10 < {7#1+ | <[]}") ≡ refused 17)
    × (read_text t9 (text "7#10 <  7#1{| <[]{") ≡ refused 17)
    × (spell t9 (write t9 0 (many 1 (also (many 0 none) (also (lit 63 10) (also (lit 63 10) (also (lit 10 0) none)))))) ≡ text "+[<[]; 10#63; 10#63; 0#10]")
    × (read_text t9 (text "(+[<[]; 10#63; 10#63; 0#10])") ≡ ok (many 1 (also (many 0 none) (also (lit 63 10) (also (lit 63 10) (also (lit 10 0) none))))))
    × (read_text t9 (text "+[<[]; 10#63; 10#63; 0#10") ≡ refused 17)
    × (read_text t9 (text "+[<[]; 10#63; 101#63;0#10]") ≡ refused 17)
    × (spell t9 (write t9 0 (two 1 (lit 0 7) (many 0 none))) ≡ text "7#0 + <[]")
    × (read_text t9 (text "7#0 + <[]") ≡ ok (two 1 (lit 0 7) (many 0 none)))
    × (read_text t9 (text "7#] + <[0") ≡ refused 17)
    × (read_text t9 (text "7#0*+ <[]") ≡ refused 17)
    × (spell t9 (write t9 0 (two 0 (two 1 (lit 1 4294967295) (lit 0 4294967295)) (lit 1 4294967295))) ≡ text "4294967295#1 + 4294967295#0 < 4294967295#1")
    × (read_text t9 (text "4294967295#1 + (4294967295#0) < (4294967295#1)") ≡ ok (two 0 (two 1 (lit 1 4294967295) (lit 0 4294967295)) (lit 1 4294967295)))
    × (read_text t9 (text "4294967295#1 + 42949-67295#0 < 4294967295#1") ≡ refused 17)
    × (read_text t9 (text "4294067295#1 + 4294967295#9 <14294967295#1") ≡ refused 17)
unfolding entry read_text spell text write
drawn9 = (refl, refl, refl, refl, refl, refl, refl, refl, refl, refl, refl, refl, refl, refl, refl, refl)

abbrev t10 : List ℕ
t10 = 0 ∷ 0 ∷ 0 ∷ 255 ∷ 0 ∷ 1 ∷ 0 ∷ 1 ∷ 1 ∷ entry "/" 2 ++ (entry "-" 3 ++ (entry "<" 3))

drawn10 : (spell t10 (write t10 0 (two 1 (two 1 (lit 10 4294967295) (lit 63 10)) (many 2 none))) ≡ text "4294967295#10 - 10#63 - <[]")
    × (read_text t10 (text "4294967295#10 - 10#63 - <[]") ≡ ok (two 1 (two 1 (lit 10 4294967295) (lit 63 10)) (many 2 none)))
    × (read_text t10 (text "4294967295#1 - 10[#63 - <[]") ≡ refused 17)
    × (read_text t10 (text "429(967295#1 - 10#63 - <[]") ≡ refused 17)
    × (spell t10 (write t10 0 (two 2 (many 0 none) (many 2 none))) ≡ text "/[] < <[]")
    × (read_text t10 (text "(/[] < (<[]))") ≡ ok (two 2 (many 0 none) (many 2 none)))
    × (read_text t10 (text "/[]< <[]") ≡ refused 17)
    × (read_text t10 (text "/][ < <[]") ≡ refused 17)
    × (spell t10 (write t10 0 (marked (also (many 2 none) (also (lit 1 10) none)))) ≡ text "{<[] | 10#1}")
    × (read_text t10 (text "({(<[]) | 10#1})") ≡ ok (marked (also (many 2 none) (also (lit 1 10) none))))
    × (read_text t10 (text "+<[] |) 10#1}") ≡ refused 17)
    × (read_text t10 (text "{<[] | 1#01}") ≡ refused 17)
    × (spell t10 (write t10 0 (many 2 (also (lit 10 4294967295) (also (lit 10 7) (also (lit 10 0) none))))) ≡ text "<[4294967295#10; 7#10; 0#10]")
    × (read_text t10 (text "<[(4294967295#10); 7#10; 0#10]") ≡ ok (many 2 (also (lit 10 4294967295) (also (lit 10 7) (also (lit 10 0) none)))))
    × (read_text t10 (text "<[4294967295#0; 7#10; 0#10]") ≡ ok (many 2 (also (lit 0 4294967295) (also (lit 10 7) (also (lit 10 0) none)))))
    × (read_text t10 (text "<[4294967295#10; 7#10 0#10]") ≡ refused 17)
unfolding entry read_text spell text write
drawn10 = (refl, refl, refl, refl, refl, refl, refl, refl, refl, refl, refl, refl, refl, refl, refl, refl)

abbrev t11 : List ℕ
t11 = 1 ∷ 0 ∷ 0 ∷ 1 ∷ 255 ∷ 255 ∷ 1 ∷ 0 ∷ 0 ∷ entry "a" 1 ++ (entry "ab" 1)

drawn11 : (spell t11 (write t11 0 (marked (also (lit 63 7) (also (many 1 none) none)))) ≡ text "{7#63 | ab[]}")
    × (read_text t11 (text "({7#63 | ab[]})") ≡ ok (marked (also (lit 63 7) (also (many 1 none) none))))
    × (read_text t11 (text "{7]#63 |[ab ]}") ≡ refused 17)
    × (read_text t11 (text "{7#63 ] ab+[|}") ≡ refused 17)
    × (spell t11 (write t11 0 (marked (also (two 1 (many 0 none) (many 1 none)) (also (two 1 (lit 10 7) (many 1 none)) none)))) ≡ text "{a[] ab ab[] | 7#10 ab ab[]}")
    × (read_text t11 (text "({a[] ab ab[] | 7#10 ab ab[]})") ≡ ok (marked (also (two 1 (many 0 none) (many 1 none)) (also (two 1 (lit 10 7) (many 1 none)) none))))
    × (read_text t11 (text "{a[] ab ab[] | 7#10 ab ab[{}") ≡ refused 17)
    × (read_text t11 (text "{a[] ab ab[] | 7#10 ab ab[]b") ≡ refused 17)
    × (spell t11 (write t11 0 (two 1 (many 0 none) (many 0 (also (lit 0 4294967295) (also (lit 1 10) (also (lit 0 4294967295) (also (lit 0 10) none))))))) ≡ text "a[] ab a[4294967295#0; 10#1; 4294967295#0; 10#0]")
    × (read_text t11 (text "a[] ab a[(4294967295#0); (10#1); 4294967295#0; (10#0)]") ≡ ok (two 1 (many 0 none) (many 0 (also (lit 0 4294967295) (also (lit 1 10) (also (lit 0 4294967295) (also (lit 0 10) none)))))))
    × (read_text t11 (text "a[] ab a[429|4967295#0; 10#1; 4299967245#0; 10#0]") ≡ refused 17)
    × (read_text t11 (text "a[] ab a[424967295#0; 10#1; 4294967295#0; 10#0]") ≡ ok (two 1 (many 0 none) (many 0 (also (lit 0 424967295) (also (lit 1 10) (also (lit 0 4294967295) (also (lit 0 10) none)))))))
    × (spell t11 (write t11 0 (two 1 (two 0 (lit 10 10) (marked (also (lit 0 7) (also (lit 0 10) none)))) (lit 0 0))) ≡ text "(10#10 a {7#0 | 10#0}) ab 0#0")
    × (read_text t11 (text "((10#10) a {(7#0) | (10#0)}) ab 0#0") ≡ ok (two 1 (two 0 (lit 10 10) (marked (also (lit 0 7) (also (lit 0 10) none)))) (lit 0 0)))
    × (read_text t11 (text "(10#10 a {7#0]| 10b0}) a# 0#0") ≡ refused 17)
    × (read_text t11 (text "(10#10 a {7#0 | 10#0}) ab )#0") ≡ refused 17)
unfolding entry read_text spell text write
drawn11 = (refl, refl, refl, refl, refl, refl, refl, refl, refl, refl, refl, refl, refl, refl, refl, refl)
