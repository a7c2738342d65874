-- CSS Color Module Level 3, section 4.3: the extended colour keywords. Written from a published copy of the table; it knows nothing of the readers.
use Rattle.std.specs.Prelude.{ℕ, List, [], ◌∷◌}
use Prim.Native.String.{String}

-- a line of the table
pub record Keyword : Type 0 where
  pub name : String
  pub red : ℕ
  pub green : ℕ
  pub blue : ℕ

abbrev pub is : String → ℕ → ℕ → ℕ → Keyword
is n r g b = record { name = n; red = r; green = g; blue = b }

unfoldable pub keywords : List Keyword
keywords =
    is "aliceblue" 240 248 255
    ∷ is "antiquewhite" 250 235 215
    ∷ is "aqua" 0 255 255
    ∷ is "aquamarine" 127 255 212
    ∷ is "azure" 240 255 255
    ∷ is "beige" 245 245 220
    ∷ is "bisque" 255 228 196
    ∷ is "black" 0 0 0
    ∷ is "blanchedalmond" 255 235 205
    ∷ is "blue" 0 0 255
    ∷ is "blueviolet" 138 43 226
    ∷ is "brown" 165 42 42
    ∷ is "burlywood" 222 184 135
    ∷ is "cadetblue" 95 158 160
    ∷ is "chartreuse" 127 255 0
    ∷ is "chocolate" 210 105 30
    ∷ is "coral" 255 127 80
    ∷ is "cornflowerblue" 100 149 237
    ∷ is "cornsilk" 255 248 220
    ∷ is "crimson" 220 20 60
    ∷ is "cyan" 0 255 255
    ∷ is "darkblue" 0 0 139
    ∷ is "darkcyan" 0 139 139
    ∷ is "darkgoldenrod" 184 134 11
    ∷ is "darkgray" 169 169 169
    ∷ is "darkgreen" 0 100 0
    ∷ is "darkgrey" 169 169 169
    ∷ is "darkkhaki" 189 183 107
    ∷ is "darkmagenta" 139 0 139
    ∷ is "darkolivegreen" 85 107 47
    ∷ is "darkorange" 255 140 0
    ∷ is "darkorchid" 153 50 204
    ∷ is "darkred" 139 0 0
    ∷ is "darksalmon" 233 150 122
    ∷ is "darkseagreen" 143 188 143
    ∷ is "darkslateblue" 72 61 139
    ∷ is "darkslategray" 47 79 79
    ∷ is "darkslategrey" 47 79 79
    ∷ is "darkturquoise" 0 206 209
    ∷ is "darkviolet" 148 0 211
    ∷ is "deeppink" 255 20 147
    ∷ is "deepskyblue" 0 191 255
    ∷ is "dimgray" 105 105 105
    ∷ is "dimgrey" 105 105 105
    ∷ is "dodgerblue" 30 144 255
    ∷ is "firebrick" 178 34 34
    ∷ is "floralwhite" 255 250 240
    ∷ is "forestgreen" 34 139 34
    ∷ is "fuchsia" 255 0 255
    ∷ is "gainsboro" 220 220 220
    ∷ is "ghostwhite" 248 248 255
    ∷ is "gold" 255 215 0
    ∷ is "goldenrod" 218 165 32
    ∷ is "gray" 128 128 128
    ∷ is "green" 0 128 0
    ∷ is "greenyellow" 173 255 47
    ∷ is "grey" 128 128 128
    ∷ is "honeydew" 240 255 240
    ∷ is "hotpink" 255 105 180
    ∷ is "indianred" 205 92 92
    ∷ is "indigo" 75 0 130
    ∷ is "ivory" 255 255 240
    ∷ is "khaki" 240 230 140
    ∷ is "lavender" 230 230 250
    ∷ is "lavenderblush" 255 240 245
    ∷ is "lawngreen" 124 252 0
    ∷ is "lemonchiffon" 255 250 205
    ∷ is "lightblue" 173 216 230
    ∷ is "lightcoral" 240 128 128
    ∷ is "lightcyan" 224 255 255
    ∷ is "lightgoldenrodyellow" 250 250 210
    ∷ is "lightgray" 211 211 211
    ∷ is "lightgreen" 144 238 144
    ∷ is "lightgrey" 211 211 211
    ∷ is "lightpink" 255 182 193
    ∷ is "lightsalmon" 255 160 122
    ∷ is "lightseagreen" 32 178 170
    ∷ is "lightskyblue" 135 206 250
    ∷ is "lightslategray" 119 136 153
    ∷ is "lightslategrey" 119 136 153
    ∷ is "lightsteelblue" 176 196 222
    ∷ is "lightyellow" 255 255 224
    ∷ is "lime" 0 255 0
    ∷ is "limegreen" 50 205 50
    ∷ is "linen" 250 240 230
    ∷ is "magenta" 255 0 255
    ∷ is "maroon" 128 0 0
    ∷ is "mediumaquamarine" 102 205 170
    ∷ is "mediumblue" 0 0 205
    ∷ is "mediumorchid" 186 85 211
    ∷ is "mediumpurple" 147 112 219
    ∷ is "mediumseagreen" 60 179 113
    ∷ is "mediumslateblue" 123 104 238
    ∷ is "mediumspringgreen" 0 250 154
    ∷ is "mediumturquoise" 72 209 204
    ∷ is "mediumvioletred" 199 21 133
    ∷ is "midnightblue" 25 25 112
    ∷ is "mintcream" 245 255 250
    ∷ is "mistyrose" 255 228 225
    ∷ is "moccasin" 255 228 181
    ∷ is "navajowhite" 255 222 173
    ∷ is "navy" 0 0 128
    ∷ is "oldlace" 253 245 230
    ∷ is "olive" 128 128 0
    ∷ is "olivedrab" 107 142 35
    ∷ is "orange" 255 165 0
    ∷ is "orangered" 255 69 0
    ∷ is "orchid" 218 112 214
    ∷ is "palegoldenrod" 238 232 170
    ∷ is "palegreen" 152 251 152
    ∷ is "paleturquoise" 175 238 238
    ∷ is "palevioletred" 219 112 147
    ∷ is "papayawhip" 255 239 213
    ∷ is "peachpuff" 255 218 185
    ∷ is "peru" 205 133 63
    ∷ is "pink" 255 192 203
    ∷ is "plum" 221 160 221
    ∷ is "powderblue" 176 224 230
    ∷ is "purple" 128 0 128
    ∷ is "red" 255 0 0
    ∷ is "rosybrown" 188 143 143
    ∷ is "royalblue" 65 105 225
    ∷ is "saddlebrown" 139 69 19
    ∷ is "salmon" 250 128 114
    ∷ is "sandybrown" 244 164 96
    ∷ is "seagreen" 46 139 87
    ∷ is "seashell" 255 245 238
    ∷ is "sienna" 160 82 45
    ∷ is "silver" 192 192 192
    ∷ is "skyblue" 135 206 235
    ∷ is "slateblue" 106 90 205
    ∷ is "slategray" 112 128 144
    ∷ is "slategrey" 112 128 144
    ∷ is "snow" 255 250 250
    ∷ is "springgreen" 0 255 127
    ∷ is "steelblue" 70 130 180
    ∷ is "tan" 210 180 140
    ∷ is "teal" 0 128 128
    ∷ is "thistle" 216 191 216
    ∷ is "tomato" 255 99 71
    ∷ is "turquoise" 64 224 208
    ∷ is "violet" 238 130 238
    ∷ is "wheat" 245 222 179
    ∷ is "white" 255 255 255
    ∷ is "whitesmoke" 245 245 245
    ∷ is "yellow" 255 255 0
    ∷ is "yellowgreen" 154 205 50
    ∷ []
