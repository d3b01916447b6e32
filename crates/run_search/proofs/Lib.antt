mod Beginning
mod Noting
