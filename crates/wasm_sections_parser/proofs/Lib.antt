mod NextBody
mod NextCustom
